-- `reuse::count_new_lines` meets its contract: the sums of the walk's counts, put in their places.
use Prim.Native.Nat.{suc, ◌-◌}
use mathlib.Core.Path.{◌≡◌, refl, ◌∙◌}
use native.Mathlib.Omega.{arith}
use Rattle.reuse.proofs.count_new_lines.Goals as goal

pub sum_rows-requires : goal.sum_rows-requires
sum_rows-requires c =
    let counts = c.count_rereads.ensures in
    (counts.long, omega arith, λ i h. counts.few i (omega arith))

pub returns : goal.returns
returns c =
    let counts = c.count_rereads.ensures in
    let rows = c.block_count.ensures.0 in
    record {
      accepted = c.requires.0;
      long = c.sum_rows.ensures.counts_len;
      counted =
          λ a b h l.
          let there : suc (b - 1) ≡ b = omega arith in
          c.sum_rows.ensures.summed_rows a (b - 1) (omega arith) (omega (arith, rows)) ∙ counts.sums a (b - 1) (omega arith) (omega arith) ∙ rw there refl;
    }
