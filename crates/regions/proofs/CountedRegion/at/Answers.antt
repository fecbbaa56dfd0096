-- `regions::CountedRegion::at` meets its contract: no blocks have no time and load no line, and Q counts for them.
use Prim.Native.Nat.{zero-le}
use mathlib.Core.Path.{refl, sym}
use native.Mathlib.Nat.{le_refl}
use Rattle.model.proofs.Regions.{region-none}
use Rattle.regions.proofs.Runs.{run_none}
use Rattle.regions.proofs.CountedRegion.at.Goals as goal

pub returns : goal.returns
returns c =
    let a = c.args.a in (
      λ t e h. record {
        rising = le_refl a;
        within = h;
        lines = sym (region-none t a);
        few = zero-le;
        run = rw c.none.ensures (run_none t a c.args.header e);
      },
      refl,
      refl,
    )
