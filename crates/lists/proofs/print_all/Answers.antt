-- The number that is found is from the start on, and at most 32,767.
use Rattle.std.proofs.Common.{ℕ, ◌-◌, ◌^◌, ◌≤◌, sym, arith}
use lib.Pow.{pow_mono}
use Rattle.enumerating.proofs.Searching.{found_between}
use Rattle.lists.proofs.print_all.Goals as goal

few : (n : ℕ) → n ≤ 16 → 2 ^ (n - 1) ≤ 32768
few n h = pow_mono {j = 15} (omega arith)

pub overflow_add-start : goal.overflow_add-start
overflow_add-start g c =
    let found = found_between _ _ _ _ _ _ (sym c.in-Some.ensures) in
    omega (arith, found.1, few c.args.blocks c.requires.1)

pub loop-list-smaller : goal.loop-list-smaller
loop-list-smaller g c =
    let found = found_between _ _ _ _ _ _ (sym c.in-Some.ensures) in
    omega (arith, found.0, found.1)

pub loop-list-preserved : goal.loop-list-preserved
loop-list-preserved g c =
    let found = found_between _ _ _ _ _ _ (sym c.in-Some.ensures) in
    omega (arith, found.1)
