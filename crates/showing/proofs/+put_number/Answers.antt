-- `showing::put_number` meets its contract: the digits of a tenth come first, and then the last digit.
use native.Mathlib.Omega.{arith}
use Prim.Native.Nat.{ℕ, ◌+◌, ◌/◌, ◌%◌, ◌<◌, ◌≤◌, ◌^◌}
use mathlib.Core.Path.{refl}
use mathlib.Core.List.{List, [], ◌∷◌}
use Rattle.decimals.specs.Decimals.{spelled}
use Rattle.showing.proofs.Laws.{Next, all_left, next, room, put_next, all-put}
use Rattle.showing.proofs.Numbers.{one-digit, more-digits}
use Rattle.showing.proofs.+put_number.Goals as goal

pub put_byte-requires : goal.put_byte-requires
put_byte-requires t c = rw (one-digit c.args.n c.if-n-lt10.true) at c.requires

pub returns-then-n-lt10 : goal.returns-then-n-lt10
returns-then-n-lt10 t c = rw (one-digit c.args.n c.if-n-lt10.true) c.put_byte.ensures

-- the digits of a tenth are to be put first
tenth-next : (out : List ℕ) (at n : ℕ) → n < 2 ^ 32 → 10 ≤ n → Next out at (spelled n) out at (spelled (n / 10)) ((48 + n % 10) ∷ [])
tenth-next out at n f h = next _ _ (more-digits n f h) (all_left _ _ _)

pub put_number-next-requires : goal.put_number-next-requires
put_number-next-requires t c = (omega arith, room (tenth-next c.args.out.now c.args.at c.args.n (omega arith) c.if-n-lt10.false) c.requires)

pub put_byte-requires-2 : goal.put_byte-requires-2
put_byte-requires-2 t c =
    let tenth = put_next (tenth-next c.args.out.now c.args.at c.args.n (omega arith) c.if-n-lt10.false) c.put_number-next.ensures in
    room (next ((48 + c.args.n % 10) ∷ []) [] refl tenth) c.requires

pub returns : goal.returns
returns t c =
    let tenth = put_next (tenth-next c.args.out.now c.args.at c.args.n (omega arith) c.if-n-lt10.false) c.put_number-next.ensures in
    all-put (put_next (next _ [] refl tenth) c.put_byte-2.ensures)
