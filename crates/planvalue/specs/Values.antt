-- Plan values (document 01, "Blocks of 512 bytes" and "Numbers given to the build"): which plans can be stored. Assumes nothing.
use Rattle.std.specs.Prelude.{ℕ, zero, suc, Bool, cond, ◌&&◌, List, eqb, leb, ltb, get_or, Err}
use Rattle.model.specs.Lists.{lowest_from, right_point}
use Rattle.model.specs.Answers.{accept, Verdict, refused_at}
use Rattle.model.specs.declared.Plan.{Plan}
use Rattle.model.specs.declared.Refusal.TheVariants.{Argument}

-- the point before index i; 0 before the first
unfoldable pub point_before : List ℕ → ℕ → ℕ
point_before ps zero = 0
point_before ps (suc i) = get_or ps i 0

-- entry i of the points of a plan of n blocks: a right point below the count, and 0 from there on
unfoldable pub point_right : ℕ → ℕ → List ℕ → ℕ → Bool
point_right n count ps i = cond (ltb i count) (right_point n (point_before ps i) (get_or ps i 0)) (eqb (get_or ps i 0) 0)

-- N is 1 to 64 and the count at most 63
unfoldable pub plan_in_range : Plan → Bool
plan_in_range p = leb 1 p.blocks && leb p.blocks 64 && leb p.count 63

-- 7 at the lowest wrong entry
abbrev pub points_verdict : Plan → Verdict
points_verdict p = refused_at (lowest_from (point_right p.blocks p.count p.points) 0 64) Argument accept

-- can a plan be stored: 7 at 0 for N or the count, then for the entries
unfoldable pub plan_verdict : Plan → Verdict
plan_verdict p = cond (plan_in_range p) (points_verdict p) (Err (Argument 0))
