-- A list that spells a tree is read in one way, and it is what is written.
use Rattle.std.proofs.Common.{◌≡◌, ℕ, List, [], ◌∷◌, ◌++◌, length, refl, sym, ap, ◌∙◌, append_assoc}
use Rattle.fn_matter.specs.Words.{Tree, Trees, node, none, more, words, words_all, spell, spell_all, begun, marked}

pub record Split (as' bs xs ys : List ℕ) : Type 0 where
  pub front : as' ≡ bs
  pub behind : xs ≡ ys

-- lists of one length in front of others
split : (as' bs xs ys : List ℕ) → length as' ≡ length bs → as' ++ xs ≡ bs ++ ys → Split as' bs xs ys
split [] [] xs ys many e = record { front = refl; behind = e }
split (a ∷ as') (b ∷ bs) xs ys many e =
    let first : a ≡ b = cc in
    let rest : as' ++ xs ≡ bs ++ ys = cc in
    let fewer : length as' ≡ length bs = cc in
    let s = split as' bs xs ys fewer rest in
    record { front = λ i. first i ∷ s.front i; behind = s.behind }
split [] (b ∷ bs) xs ys many e = cc
split (a ∷ as') [] xs ys many e = cc

pub record Read (t u : Tree) (x y : List ℕ) : Type 0 where
  pub tree : t ≡ u
  pub rest : x ≡ y

pub record ReadAll (ts us : Trees) (x y : List ℕ) : Type 0 where
  pub trees : ts ≡ us
  pub rest : x ≡ y

mutual
  pub read : (t u : Tree) (x y : List ℕ) → words t ++ x ≡ words u ++ y → Read t u x y
  read (node k ns ts) (node l ms us) x y e =
      let kind : k ≡ l = cc in
      let many : length ns ≡ length ms = cc in
      let both : (ns ++ words_all ts) ++ x ≡ (ms ++ words_all us) ++ y = cc in
      let there : ns ++ (words_all ts ++ x) ≡ ms ++ (words_all us ++ y) =
      sym (append_assoc ns (words_all ts) x) ∙ both ∙ append_assoc ms (words_all us) y in
      let s = split ns ms (words_all ts ++ x) (words_all us ++ y) many there in
      let r = read_all ts us x y s.behind in
      record { tree = λ i. node (kind i) (s.front i) (r.trees i); rest = r.rest }

  pub read_all : (ts us : Trees) (x y : List ℕ) → words_all ts ++ x ≡ words_all us ++ y → ReadAll ts us x y
  read_all none none x y e =
      let rest : x ≡ y = cc in
      record { trees = refl; rest = rest }
  read_all (more t ts) (more u us) x y e =
      let both : (words t ++ words_all ts) ++ x ≡ (words u ++ words_all us) ++ y = cc in
      let there : words t ++ (words_all ts ++ x) ≡ words u ++ (words_all us ++ y) =
      sym (append_assoc (words t) (words_all ts) x) ∙ both ∙ append_assoc (words u) (words_all us) y in
      let r = read t u (words_all ts ++ x) (words_all us ++ y) there in
      let rs = read_all ts us x y r.rest in
      record { trees = λ i. more (r.tree i) (rs.trees i); rest = rs.rest }
  read_all none (more u us) x y e = cc
  read_all (more t ts) none x y e = cc

mutual
  pub spelled : (t : Tree) (ws : List ℕ) → spell t ws ≡ ws ++ words t
  spelled (node k ns ts) ws = spelled_all ts (begun k ns ws) ∙ append_assoc ws (k ∷ length ns ∷ ns) (words_all ts)

  pub spelled_all : (ts : Trees) (ws : List ℕ) → spell_all ts ws ≡ ws ++ words_all ts
  spelled_all none ws = refl
  spelled_all (more t ts) ws =
      spelled_all ts (spell t (marked ws))
      ∙ (ap (λ (l : List ℕ). l ++ words_all ts) (spelled t (marked ws))
      ∙ (append_assoc (marked ws) (words t) (words_all ts)
      ∙ append_assoc ws (1 ∷ []) (words t ++ words_all ts)))
