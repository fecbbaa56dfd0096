-- `decimals::capped_decimal` meets its contract. The loop's invariant: the bytes say what the number so far and the bytes left say, up to the bound.
use Prim.Native.Nat.{◌≤◌}
use mathlib.Core.Path.{◌≡◌}
use lib.ListN.{drop}
use Rattle.decimals.specs.Decimals.{capped_decimal}
use Rattle.decimals.proofs.Decimals.{capped}
use Rattle.decimals.proofs.capped_decimal.Given as goal

abbrev pub invariant-loop-byte : goal.invariant-loop-byte
invariant-loop-byte l = (l.n ≤ l.most) × (capped_decimal l.most l.text ≡ capped l.most l.n (drop l.byte-index l.text))
