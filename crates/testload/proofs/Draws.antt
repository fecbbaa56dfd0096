-- Laws of draws: one thing more at the end of what is drawn, and what each drawn number is below.
-- Assumes nothing.
use Prim.Native.Nat.{ℕ, zero, suc, ◌+◌, ◌*◌, ◌%◌, ◌^◌, ◌<◌, ◌≤◌}
use mathlib.Core.Path.{◌≡◌, refl, ap, ◌∙◌}
use mathlib.Core.List.{List, [], ◌∷◌, ◌++◌, map}
use native.Mathlib.Nat.{zero-add, add-zero, add-suc, suc-add}
use native.Mathlib.Omega.{arith}
use lib.ListN.{length, take}
use borrow.Rule.Slice.PartMut.{put_mid}
use Rattle.block.specs.Bytes.{Each}
use Rattle.block.specs.Blocks.{numbered}
use Rattle.taskfile.specs.File.{EntryWithin}
use Rattle.writer.specs.Writing.{stored_reads, Appended}
use Rattle.writer.proofs.Laws.{appended-more}
use Rattle.testload.specs.Draws.{next, draw, after, drawn_list, drawn_number, drawn_reads, drawn_block, drawn_preempter}

pub after-snoc : (f : ℕ → ℕ) (n s : ℕ) → after f (suc n) s ≡ f (after f n s)
unfolding after
after-snoc f zero s = refl
after-snoc f (suc n) s = after-snoc f n (f s)

drawn-snoc : {A : Type 0} (g : ℕ → ℕ → A) (f : ℕ → ℕ) (i n s : ℕ) → drawn_list g f i (suc n) s ≡ drawn_list g f i n s ++ (g (i + n) (after f n s) ∷ [])
unfolding after drawn_list
drawn-snoc g f i zero s = rw add-zero
drawn-snoc g f i (suc n) s = ap (λ (r : List _). g i s ∷ r) (rw (add-suc, ← suc-add) (drawn-snoc g f (suc i) n (f s)))

pub length-drawn : {A : Type 0} (g : ℕ → ℕ → A) (f : ℕ → ℕ) (i n s : ℕ) → length (drawn_list g f i n s) ≡ n
unfolding drawn_list
length-drawn g f i zero s = refl
length-drawn g f i (suc n) s = ap suc (length-drawn g f (suc i) n (f s))

-- one number more stands in a block
pub number_more : (j s current drawn : ℕ) (bs new : List ℕ) → stored_reads bs j ≡ drawn_list drawn_number next 0 j s → current ≡ after next j s
    → drawn ≡ draw current → stored_reads new (suc j) ≡ stored_reads bs j ++ (drawn % 4096 ∷ []) → stored_reads new (suc j) ≡ drawn_list drawn_number next 0 (suc j) s
unfolding drawn_number
number_more j s current drawn bs new e c d p = p ∙ rw (drawn-snoc drawn_number next 0 j s, e, d, c)

-- one block more is appended, in the part of w bytes behind those that are
pub block_more : (g : ℕ → ℕ → List ℕ) (f : ℕ → ℕ) (k n s current w : ℕ) (old out part : List ℕ) → (1 + k + n) * 512 ≤ length out
    → length part ≡ 512 → Appended k (drawn_list g f 0 n s) old out → current ≡ after f n s → take 508 part ≡ numbered (1 + k + n) (g n current)
    → Appended k (drawn_list g f 0 (suc n) s) old (put_mid ((1 + k + n) * 512) w out part)
block_more g f k n s current w old out part room long before e p =
    let count = length-drawn g f 0 n s in
    rw (drawn-snoc g f 0 n s, zero-add)
    (appended-more k ((1 + k + n) * 512) w (drawn_list g f 0 n s) (g n (after f n s)) old out part (omega arith) room (omega arith) before
    (rw (count, ← e) p))

-- the bytes of things drawn are things drawn
pub map-drawn : {A B : Type 0} (h : A → B) (g : ℕ → ℕ → A) (f : ℕ → ℕ) (i n s : ℕ) → map h (drawn_list g f i n s) ≡ drawn_list (λ j t. h (g j t)) f i n s
unfolding drawn_list
map-drawn h g f i zero s = refl
map-drawn h g f i (suc n) s = ap (λ (r : List _). h (g i s) ∷ r) (map-drawn h g f (suc i) n (f s))

-- what holds of each thing drawn, whose indices are below k
each-drawn : {A : Type 0} (P : A → Type 0) (g : ℕ → ℕ → A) (f : ℕ → ℕ) (i n k s : ℕ) → i + n ≤ k → ((j t : ℕ) → j < k → P (g j t))
    → Each P (drawn_list g f i n s)
unfolding drawn_list Each
each-drawn P g f i zero k s l h = tt
each-drawn P g f i (suc n) k s l h = (h i s (omega arith), each-drawn P g f (suc i) n k (f s) (omega arith) h)

-- a block that is drawn has room in a file
entry-drawn : (x s : ℕ) → x < 2 ^ 32 → EntryWithin x (drawn_reads s)
unfolding drawn_reads drawn_number
entry-drawn x s h =
    record {
      number = h;
      count = rw length-drawn (omega arith);
      numbers = each-drawn (λ m. m < 2 ^ 32) drawn_number next 0 (draw s % 125) 125 (next s) (omega arith) (λ j t l. omega arith);
    }

pub blocks-within : (f : ℕ → ℕ) (n s : ℕ) → Each (λ b. EntryWithin b.time b.reads) (drawn_list drawn_block f 0 n s)
unfolding drawn_block
blocks-within f n s =
    each-drawn (λ b. EntryWithin b.time b.reads) drawn_block f 0 n n s (omega arith) (λ j t l. entry-drawn (1 + draw t % 1000) (next t) (omega arith))

pub preempters-within : (f : ℕ → ℕ) (n s : ℕ) → n ≤ 32 → Each (λ p. EntryWithin p.id p.reads) (drawn_list drawn_preempter f 0 n s)
unfolding drawn_preempter
preempters-within f n s h =
    each-drawn (λ p. EntryWithin p.id p.reads) drawn_preempter f 0 n n s (omega arith) (λ j t l. entry-drawn j t (omega arith))
