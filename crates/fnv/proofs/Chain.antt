-- One chain of a hash, in any loop: its start, one byte more, a word more, and its end.
-- Assumes nothing.
use mathlib.Core.Path.{◌≡◌, refl, sym, ap, ◌∙◌}
use Prim.Native.Nat.{ℕ, ◌+◌, ◌-◌, ◌<◌, ◌≤◌}
use mathlib.Core.List.{List, [], ◌∷◌, ◌++◌}
use native.Mathlib.Nat.{add-sub_cancel_left}
use native.Mathlib.Numerals.{add-one}
use native.Mathlib.Omega.{arith}
use lib.ListN.{length, get_or, take, drop, replicate, take-append-drop}
use lib.Seq.{drop-cons, drop-length, drop-drop}
use Rattle.std.proofs.Common.{fold}
use Rattle.fnv.specs.Fnv.{step, hash_from}
use Rattle.fnv.specs.Steps.{Reached}
use Rattle.fnv.proofs.Zeros.{all-zero}

pub chain-start : (from : ℕ) (bytes : List ℕ) → Reached from bytes 0 from
chain-start from bytes = record { within = omega arith; on = refl }

pub chain_next : {from : ℕ} {bytes : List ℕ} {i state next : ℕ} → Reached from bytes i state → next ≡ step state (get_or bytes i 0) → i < length bytes
    → Reached from bytes (i + 1) next
unfolding hash_from
chain_next {from} {bytes} {i} r e h = record { within = omega arith; on = rw (e, add-one) (rw (drop-cons bytes i 0 h) at r.on) }

pub fold-hash : (state : ℕ) (bytes : List ℕ) → fold step state bytes ≡ hash_from state bytes
unfolding hash_from
fold-hash state [] = refl
fold-hash state (x ∷ xs) = fold-hash (step state x) xs

hash-append : (state : ℕ) (xs ys : List ℕ) → hash_from state (xs ++ ys) ≡ hash_from (hash_from state xs) ys
unfolding hash_from
hash-append state [] ys = refl
hash-append state (x ∷ xs) ys = hash-append (step state x) xs ys

-- the bytes of a slice from i on
pub chain-part : {from : ℕ} {bytes : List ℕ} {i state : ℕ} (n next : ℕ) → Reached from bytes i state → next ≡ hash_from state (take n (drop i bytes)) → i + n ≤ length bytes
    → Reached from bytes (i + n) next
chain-part {from} {bytes} {i} {state} n next r e h =
    record {
      within = h;
      on =
          ap (λ (s : ℕ). hash_from s (drop (i + n) bytes)) e ∙
          ap (hash_from (hash_from state (take n (drop i bytes)))) (sym (drop-drop n i bytes)) ∙
          sym (hash-append state (take n (drop i bytes)) (drop n (drop i bytes))) ∙ ap (hash_from state) (take-append-drop n (drop i bytes)) ∙ r.on;
    }

-- a word of eight bytes, up to end
pub chain-word : {from : ℕ} {bytes : List ℕ} {i state next : ℕ} → Reached from bytes i state → next ≡ hash_from state (take (i + 8 - i) (drop i bytes)) → i + 8 ≤ length bytes
    → Reached from bytes (i + 8) next
chain-word {from} {bytes} {i} {state} {next} r e h = chain-part 8 next r (rw (add-sub_cancel_left i 8) at e) h

-- n zeros
pub chain-zeros : (n : ℕ) {from : ℕ} {bytes : List ℕ} {i state next : ℕ} → Reached from bytes i state → next ≡ hash_from state (replicate n 0) → i + n ≤ length bytes
    → ((j : ℕ) → j < n → get_or bytes (i + j) 0 ≡ 0) → Reached from bytes (i + n) next
chain-zeros n {from} {bytes} {i} {state} {next} r e h zeros = chain-part n next r (rw (all-zero n bytes i h zeros) e) h

pub chain-end : {from : ℕ} {bytes : List ℕ} {i state : ℕ} → Reached from bytes i state → i ≡ length bytes → state ≡ hash_from from bytes
unfolding hash_from
chain-end r e = rw (e, drop-length) at r.on

-- all that is left
pub chain-rest : {from : ℕ} {bytes : List ℕ} {i state next : ℕ} → Reached from bytes i state → next ≡ hash_from state (take (length bytes - i) (drop i bytes)) → next ≡ hash_from from bytes
chain-rest {from} {bytes} {i} r e = chain-end (chain-part (length bytes - i) _ r e (omega (arith, r.within))) (omega (arith, r.within))
