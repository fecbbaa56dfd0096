-- `decimals::decimal_of` meets its contract. The loop's invariant: the bytes say what the number so far and the bytes left say.
use Prim.Native.Nat.{◌^◌, ◌<◌}
use mathlib.Core.Path.{◌≡◌}
use lib.ListN.{drop}
use Rattle.decimals.specs.Decimals.{decimal_of}
use Rattle.decimals.proofs.Decimals.{followed}
use Rattle.decimals.proofs.decimal_of.Given as goal

abbrev pub invariant-loop-byte : goal.invariant-loop-byte
invariant-loop-byte l = (l.n < 2 ^ 64) × (decimal_of l.text ≡ followed l.n (drop l.byte-index l.text))
