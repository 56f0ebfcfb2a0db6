use Rattle.expr_tests.proofs.generate.+write.Given as goal

-- parts of parts are less deep
abbrev pub decreases-write : goal.decreases-write
decreases-write l = l.depth
