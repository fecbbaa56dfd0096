-- What storing a plan leaves, part by part.
-- Assumes nothing.
use Rattle.model.specs.Answers.{accept}
use Prim.Native.Nat.{ℕ, ◌+◌, ◌*◌, ◌<◌, ◌≤◌}
use mathlib.Core.Path.{◌≡◌, refl}
use mathlib.Core.Bool.{and-false}
use mathlib.Core.List.{List, [], ◌++◌, append-nil}
use native.Mathlib.Omega.{arith}
use lib.ListN.{length, take, drop, length-append}
use lib.Seq.{length-take-le}
use borrow.Author.Tests.{eq-eqb, ne_eqb, le-leb, lt-leb}
use Rattle.model.specs.declared.Plan.{Plan}
use Rattle.block.specs.Bytes.{le, les, packed}
use Rattle.block.specs.Blocks.{numbered}
use Rattle.block.proofs.Bytes.{length-les}
use Rattle.block.proofs.Storing.{Stored, stored-none, stored-first, stored-number}
use Rattle.planvalue.specs.Values.{plan_verdict}
use Rattle.planvalue.proofs.Verdicts.{count-accepted}
use Rattle.planblock.specs.Plans.{plan_numbers, plan_named, plan_bytes, put}

-- what `put_head` stores; each list is the buffer after one store more
pub head-stored : (p : Plan) (out kind blocks count lines cost id : List ℕ) → kind ≡ [] ++ le 2 4 ++ drop 2 out
    → blocks ≡ take 2 kind ++ le 2 p.blocks ++ drop 4 kind → count ≡ take 4 blocks ++ le 2 p.count ++ drop 6 blocks
    → lines ≡ take 6 count ++ le 2 p.lines ++ drop 8 count → cost ≡ take 8 lines ++ le 8 p.cost ++ drop 16 lines
    → id ≡ take 16 cost ++ le 4 p.id ++ drop 20 cost → take 20 id ≡ packed (plan_numbers p)
unfolding plan_numbers packed le
head-stored p out kind blocks count lines cost id p₁ p₂ p₃ p₄ p₅ p₆ =
    let s₁ = stored-number 2 4 (stored-none 0 out (omega arith)) p₁ in
    let s₂ = stored-number 2 p.blocks s₁ p₂ in
    let s₃ = stored-number 2 p.count s₂ p₃ in
    let s₄ = stored-number 2 p.lines s₃ p₄ in
    let s₅ = stored-number 8 p.cost s₄ p₅ in
    stored-first (stored-number 4 p.id s₅ p₆)

-- no point is stored
pub points_none : (points bs : List ℕ) → 20 ≤ length bs → Stored 20 bs bs (take 20 bs ++ les 2 (take 0 points))
unfolding les
points_none points bs h = rw append-nil (stored-none 20 bs h)

length-numbers : (p : Plan) → length (packed (plan_numbers p)) ≡ 20
unfolding plan_numbers packed le
length-numbers p = refl

pub length-named : (p : Plan) → length p.points ≡ 64 → p.count ≤ 63 → length (plan_named p) ≡ 20 + 2 * p.count
unfolding plan_named
length-named p l h = simp (length-append, length-numbers, length-les, length-take-le p.count p.points (omega arith))

-- what `put_body` stores
pub body-stored : (p : Plan) (head points new : List ℕ) → take 20 head ≡ packed (plan_numbers p)
    → take (20 + 2 * p.count) points ≡ take 20 head ++ les 2 (take p.count p.points)
    → take 508 new ≡ numbered 0 (take (20 + 2 * p.count) points) → take 508 new ≡ numbered 0 (plan_named p)
unfolding plan_named
body-stored p head points new p₁ p₂ p₃ = rw (p₃, p₂, p₁)

-- what `put_plan` leaves

pub put-fits : (p : Plan) (out : List ℕ) → length out ≡ 512 → p.count ≤ 63 → put p out ≡ plan_bytes p
unfolding put
put-fits p out l h = rw (eq-eqb (length out) 512 l, le-leb p.count 63 h)

pub put-longer : (p : Plan) (out : List ℕ) → (length out ≡ 512 → ⊥) → put p out ≡ out
unfolding put
put-longer p out l = rw (ne_eqb (length out) 512 l)

pub put-many : (p : Plan) (out : List ℕ) → 63 < p.count → put p out ≡ out
unfolding put
put-many p out h = rw (lt-leb p.count 63 h, and-false)

-- an accepted plan is stored
pub put-accepted : (p : Plan) (out : List ℕ) → length out ≡ 512 → plan_verdict p ≡ accept → put p out ≡ plan_bytes p
put-accepted p out l e = put-fits p out l (count-accepted p e)
