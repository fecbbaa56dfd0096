-- Two files whose preempters touch the same lines together and whose charges differ: File Seven with preempters that read 4 and 1, and 1 and 4. Their
-- tasks are computed, and the files are those of the tasks. Assumes nothing.
use Prim.Native.Nat.{ℕ, ◌<◌, ◌^◌}
use mathlib.Core.Path.{◌≡◌, refl, sym, ap, subst, ◌∙◌}
use mathlib.Core.Bool.{Bool, true, false, ◌||◌}
use mathlib.Core.List.{List, [], ◌∷◌}
use native.Mathlib.Omega.{arith}
use lib.Dec.{eqb}
use lib.ListN.{get_or}
use Rattle.model.specs.Sets.{count_below, listed, table}
use Rattle.model.specs.Task.{Preempter, Task, with_preempters}
use Rattle.model.specs.Lines.{bypasses, line_of, on_line, last_read, first_read, any_read, reads_of, preempter_reads, block_at, state_after, next_read, useful, accessed, evicted}
use Rattle.model.specs.Lists.{steps, regions, total, lowest, lowest_from}
use Rattle.model.specs.Regions.{union_after, time_after, loaded, region_lines, switch_ticks, region_cost, region_length, armed_after, region_fits}
use Rattle.model.specs.Charges.{touches, first_touching, charged_to, region_charge, charge, charges}
use Rattle.model.specs.Answers.{accept, pricing}
use Rattle.model.specs.Cases.{seven_with}
use Rattle.block.specs.Bytes.{Each}
use Rattle.taskfile.specs.File.{task_of, header_numbers, file_of, counts_in_range, scratch_in_range, header_in_range, IsAccepted, EntryWithin, Within}
use Rattle.taskfile.proofs.Tasks.{file-then-task}
use Rattle.planner.specs.Calls.{price_verdict, price_charges}
use Rattle.samelines.specs.Files.{SameLines}
use Rattle.samelines.specs.Statements.{ChargesApart}
use Rattle.samelines.proofs.Replaced.{replaced}

-- preempters of one read each
abbrev seven : ℕ → ℕ → Task
seven m n = seven_with ((m ∷ []) ∷ (n ∷ []) ∷ [])

one-read : (x m : ℕ) → x < 2 ^ 32 → m < 2 ^ 32 → EntryWithin x (m ∷ [])
unfolding Each
one-read x m h l = record { number = h; count = omega arith; numbers = (l, tt) }

two-reads : (x m n : ℕ) → x < 2 ^ 32 → m < 2 ^ 32 → n < 2 ^ 32 → EntryWithin x (m ∷ n ∷ [])
unfolding Each
two-reads x m n h l k = record { number = h; count = omega arith; numbers = (l, (k, tt)) }

preempters-within : (m n : ℕ) → m < 2 ^ 32 → n < 2 ^ 32 → Each (λ p. EntryWithin p.id p.reads) (seven m n).preempters
unfolding Each
preempters-within m n h l = (one-read 0 m (omega arith) h, (one-read 0 n (omega arith) l, tt))

within : (m n : ℕ) → m < 2 ^ 32 → n < 2 ^ 32 → Within (seven m n)
unfolding Each header_in_range counts_in_range scratch_in_range header_numbers
within m n h l =
    record {
      in-range = refl;
      numbers = omega arith;
      blocks = (
        two-reads 20 0 1 (omega arith) (omega arith) (omega arith),
        (one-read 20 2 (omega arith) (omega arith), (one-read 20 0 (omega arith) (omega arith), (two-reads 20 5 0 (omega arith) (omega arith) (omega arith), tt))),
      );
      preempters = preempters-within m n h l;
    }

-- in either order the files are accepted, hold their tasks and have the list's price

abbrev points : List ℕ
points = 1 ∷ 2 ∷ 3 ∷ []

made : (m n : ℕ) → m < 2 ^ 32 → n < 2 ^ 32 → IsAccepted (file_of (seven m n)) × (task_of (file_of (seven m n)) ≡ seven m n)
made m n h l = file-then-task (seven m n) (within m n h l)

charged : (m n : ℕ) (h : m < 2 ^ 32) (l : n < 2 ^ 32) → pricing (seven m n) points ≡ accept
    → (price_verdict (file_of (seven m n)) points ≡ accept) × (price_charges (file_of (seven m n)) points ≡ charges (seven m n) points)
unfolding price_verdict price_charges
charged m n h l e = rw ((made m n h l).0, (made m n h l).1, e) (refl, refl)

fit : (pricing (seven 4 1) points ≡ accept) × (pricing (seven 1 4) points ≡ accept)
unfolding steps regions lowest total loaded useful state_after next_read last_read first_read reads_of on_line line_of bypasses evicted any_read preempter_reads union_after accessed block_at count_below listed region_lines switch_ticks region_cost region_length time_after armed_after region_fits
fit = (refl, refl)

apart : (charge (seven 4 1) points 0 ≡ 2) × (charge (seven 1 4) points 0 ≡ 0)
unfolding regions total lowest_from loaded useful state_after next_read last_read first_read reads_of on_line line_of bypasses evicted any_read preempter_reads union_after accessed block_at count_below listed touches first_touching charged_to region_charge charge
apart = (refl, refl)

either : (a b : Bool) → (a || (b || false)) ≡ (b || (a || false))
either true true = refl
either true false = refl
either false true = refl
either false false = refl

touched : (c : ℕ) → evicted (seven 4 1) c ≡ evicted (seven 1 4) c
unfolding evicted preempter_reads any_read on_line line_of bypasses
touched c = either (eqb c 0) (eqb c 1)

same : SameLines (file_of (seven 4 1)) (file_of (seven 1 4))
same =
    let ps : List Preempter = (seven 1 4).preempters in
    let one = made 4 1 (omega arith) (omega arith) in
    subst (λ (t : Task). SameLines (file_of (seven 4 1)) (file_of (with_preempters t ps))) one.1
    (replaced (file_of (seven 4 1)) ps one.0 (rw one.1 refl) (preempters-within 1 4 (omega arith) (omega arith)) (λ c. rw one.1 (touched c)))

pub charges-apart : ChargesApart
unfolding charges table
charges-apart =
    let one = charged 4 1 (omega arith) (omega arith) fit.0 in
    let two = charged 1 4 (omega arith) (omega arith) fit.1 in
    record {
      file = file_of (seven 4 1);
      other = file_of (seven 1 4);
      points = points;
      same_lines = same;
      priced = one.0;
      apart = λ e.
          let equal : charge (seven 4 1) points 0 ≡ charge (seven 1 4) points 0 = ap (λ (cs : List ℕ). get_or cs 0 0) (sym one.1 ∙ e ∙ two.1) in
          omega (arith, apart.0, apart.1);
    }
