-- Room and turns of loops.
use Rattle.std.proofs.Common.{◌≡◌, ℕ, ◌+◌, ◌-◌, ◌*◌, ◌<◌, ◌≤◌, ap, ◌∙◌, arith}
use Rattle.std.proofs.lemmas.Nat.{mul-le}
use Rattle.run_room.specs.Room.{loop_room}
use Rattle.run_stmts.specs.Room.{Fits}

pub fits_less : (turn m n : ℕ) → m ≤ n → Fits turn n → Fits turn m
fits_less turn m n less fits =
    let e : (turn + 1) * m ≤ (turn + 1) * n = mul-le (turn + 1) m (turn + 1) n (omega arith) less in omega (arith, e)

-- the tests of a loop are fewer than its room
tests_fit : (depth r b : ℕ) → depth + 1 ≤ loop_room depth (r + 1) b
unfolding loop_room
tests_fit depth r b =
    let e : (depth + 1) * 1 ≤ (depth + 1) * (r + 1) = mul-le (depth + 1) 1 (depth + 1) (r + 1) (omega arith)
    (omega arith) in omega (arith, e)

bodies_fit : (depth a b : ℕ) → depth * b ≤ loop_room depth a b
unfolding loop_room
bodies_fit depth a b = omega arith

pub fits_tests : (turn depth r b : ℕ) → Fits turn (loop_room depth (r + 1) b) → Fits turn (depth + 1)
fits_tests turn depth r b fits =
    fits_less turn (depth + 1) (loop_room depth (r + 1) b) (tests_fit depth r b) fits

-- the room of a body fits in each turn
fits_in_each : (turn depth b t : ℕ) → t < depth → Fits turn (depth * b) → Fits (turn * depth + t) b
fits_in_each turn depth b t low fits =
    let less : turn * depth + t + 1 ≤ (turn + 1) * depth = omega arith in
    let e : (turn * depth + t + 1) * b ≤ (turn + 1) * depth * b =
    mul-le (turn * depth + t + 1) b ((turn + 1) * depth) b less (omega arith) in
    omega (arith, e)

pub body_fits : (turn depth a b t : ℕ) → t < depth → Fits turn (loop_room depth a b) → Fits (turn * depth + t) b
body_fits turn depth a b t low fits =
    fits_in_each turn depth b t low (fits_less turn (depth * b) (loop_room depth a b) (bodies_fit depth a b) fits)

-- the room that is left behind t turns
more_room : (k a b : ℕ) → loop_room (k + 1) a b ≡ (a + b) + loop_room k a b
unfolding loop_room
more_room k a b = omega arith

pub room_turn : (depth t a b : ℕ) → t < depth → loop_room (depth - t) a b ≡ (a + b) + loop_room (depth - (t + 1)) a b
room_turn depth t a b low =
    let e : depth - t ≡ depth - (t + 1) + 1 = omega arith in
    ap (λ k. loop_room k a b) e ∙ more_room (depth - (t + 1)) a b

pub room_last : (k a b : ℕ) → a ≤ loop_room k a b
unfolding loop_room
room_last k a b = let e : 1 * a ≤ (k + 1) * a = mul-le 1 a (k + 1) a (omega arith) (omega arith) in omega (arith, e)
