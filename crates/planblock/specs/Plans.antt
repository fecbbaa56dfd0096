-- Plan blocks (document 01, "Blocks of 512 bytes" and "Numbers given to the build"): the bytes of a plan, the plan of some bytes, and what
-- storing and reading answer. Assumes nothing.
use Rattle.std.specs.Prelude.{ℕ, ◌-◌, ◌^◌, ◌<◌, ◌≡◌, Bool, cond, ◌&&◌, List, [], ◌∷◌, ◌++◌, eqb, leb, length, get_or, take, replicate, Err}
use Rattle.model.specs.Answers.{accept, Verdict, accepted, on_accepted, and_then, output_row}
use Rattle.model.specs.declared.Plan.{Plan}
use Rattle.model.specs.declared.Refusal.TheVariants.{Length, Checksum, WrongBlock}
use Rattle.block.specs.Bytes.{Sized, packed, les, field, fields}
use Rattle.block.specs.Blocks.{numbered, sealed, checksum_right, body_right}
use Rattle.planvalue.specs.Values.{plan_verdict}

-- writing: the numbers before the points, each behind its width: kind 4, a zero, N, the count, lines, cost and id
unfoldable pub plan_numbers : Plan → List Sized
plan_numbers p = (1, 4) ∷ (1, 0) ∷ (2, p.blocks) ∷ (2, p.count) ∷ (2, p.lines) ∷ (8, p.cost) ∷ (4, p.id) ∷ []

-- a plan block's named bytes
unfoldable pub plan_named : Plan → List ℕ
plan_named p = packed (plan_numbers p) ++ les 2 (take p.count p.points)

-- the 512 bytes of a plan, in a block numbered 0
unfoldable pub plan_bytes : Plan → List ℕ
plan_bytes p = sealed (numbered 0 (plan_named p))

-- reading: where each number of a plan stands; zero points beyond the count
unfoldable pub plan_of : List ℕ → Plan
plan_of bs =
    record {
      blocks = field bs 2 2;
      id = field bs 16 4;
      count = field bs 4 2;
      lines = field bs 6 2;
      cost = field bs 8 8;
      points = fields bs 20 2 (field bs 4 2) ++ replicate (64 - field bs 4 2) 0;
    }

-- a plan block is right: its kind and number, N, the count, the points and the zero bytes
unfoldable pub plan_right : List ℕ → Bool
plan_right bs = accepted (plan_verdict (plan_of bs)) && body_right 0 (plan_named (plan_of bs)) bs

-- what reading any bytes answers: 1, 2 and 5, all at place 0
unfoldable pub read_verdict : List ℕ → Verdict
read_verdict bs =
    cond (eqb (length bs) 512)
    (cond (checksum_right bs) (cond (plan_right bs) accept (Err (WrongBlock 0))) (Err (Checksum 0)))
    (Err Length)

-- a buffer after a plan is stored in it without a check of N and the points: it stays what it was
-- where it is not of 512 bytes or the count is above 63
unfoldable pub put : Plan → List ℕ → List ℕ
put p out = cond (eqb (length out) 512 && leb p.count 63) (plan_bytes p) out

-- what storing a plan into a lent buffer answers: 9 first
unfoldable pub store_verdict : Plan → List ℕ → Verdict
store_verdict p out = and_then (output_row 512 (length out)) (plan_verdict p)

-- the buffer after it: the plan's bytes, and on a refusal what it held
unfoldable pub stored : Plan → List ℕ → List ℕ
stored p out = on_accepted (store_verdict p out) (plan_bytes p) out

-- a plan's fields fit their widths, and it has 64 entries: so it is of each value of the type
pub record PlanFits (p : Plan) : Type 0 where
  pub blocks : p.blocks < 2 ^ 16
  pub id : p.id < 2 ^ 32
  pub count : p.count < 2 ^ 16
  pub lines : p.lines < 2 ^ 16
  pub cost : p.cost < 2 ^ 64
  pub entries : length p.points ≡ 64
  pub points : (i : ℕ) → get_or p.points i 0 < 2 ^ 16
