-- A text is short: a number has at most ten digits, and so a line of k numbers at most 10 + 11 * k bytes, which is 1385 for each of at most 96 blocks.
-- Assumes nothing.
use Prim.Native.Nat.{ℕ, zero, suc, ◌+◌, ◌*◌, ◌/◌, ◌%◌, ◌≤◌}
use mathlib.Core.Path.{◌≡◌}
use mathlib.Core.Bool.{Bool, true, false, cond}
use mathlib.Core.List.{List, [], ◌∷◌, ◌++◌}
use native.Mathlib.Omega.{arith}
use lib.Dec.{ltb}
use lib.ListN.{length, length-append}
use Rattle.model.specs.Task.{Block, Preempter, Task}
use Rattle.model.specs.declared.Header.{Header}
use Rattle.decimals.specs.Decimals.{digits_of, spelled}
use Rattle.block.specs.Bytes.{Each}
use Rattle.taskfile.specs.File.{IsAccepted, EntryWithin, task_of}
use Rattle.taskfile.proofs.Accepted.{accepted, block-count, preempter-count}
use Rattle.taskfile.proofs.Files.{accepted-within}
use Rattle.showing.specs.Text.{line_feed, task_word, lines_word, limit_word, sampler_word, reload_word, switch_word, scratch_word, block_word, armed_word, preempter_word, spaced, line_text, header_text, block_text, blocks_text, preempter_text, preempters_text, text_of}
use Rattle.showing.specs.Puts.{Room}
use Rattle.showing.proofs.Lines.{limits-length, header-length}

few-digits : (k n : ℕ) → length (digits_of k n) ≤ k
unfolding digits_of
few-digits zero n = omega arith
few-digits (suc k) n = go (ltb n 10) (few-digits k (n / 10))
  where
    go : (z : Bool) → length (digits_of k (n / 10)) ≤ k → length (cond z ((48 + n) ∷ []) (digits_of k (n / 10) ++ ((48 + n % 10) ∷ []))) ≤ suc k
    go true h = omega arith
    go false h = omega (arith, length-append (digits_of k (n / 10)) ((48 + n % 10) ∷ []))

spaced-most : (ns : List ℕ) → length (spaced ns) ≤ 11 * length ns
unfolding spaced
spaced-most [] = omega arith
spaced-most (n ∷ ns) = omega (arith, length-append (spelled n) (spaced ns), few-digits 10 n, spaced-most ns)

line-most : (k : ℕ) (word ns : List ℕ) → length word ≤ 9 → length ns ≤ k → length (line_text word ns) ≤ 10 + 11 * k
unfolding line_text
line-most k word ns w h =
    omega (arith, length-append word (spaced ns ++ (line_feed ∷ [])), length-append (spaced ns) (line_feed ∷ []), spaced-most ns)

header-most : (h : Header) → length (header_text h) ≤ 224
header-most h =
    omega (
      arith,
      limits-length h,
      header-length h,
      line-most 2 task_word (h.id ∷ []) (omega arith) (omega arith),
      line-most 2 lines_word (h.line_count ∷ []) (omega arith) (omega arith),
      line-most 2 limit_word (h.limit ∷ []) (omega arith) (omega arith),
      line-most 2 sampler_word (h.second_limit ∷ []) (omega arith) (omega arith),
      line-most 2 reload_word (h.reload ∷ []) (omega arith) (omega arith),
      line-most 2 switch_word (h.switch ∷ []) (omega arith) (omega arith),
      line-most 2 scratch_word (h.scratch.first ∷ h.scratch.count ∷ []) (omega arith) (omega arith),
    )

word-most : (armed : Bool) → length (cond armed armed_word block_word) ≤ 9
word-most true = omega arith
word-most false = omega arith

blocks-most : (bs : List Block) → Each (λ b. EntryWithin b.time b.reads) bs → length (blocks_text bs) ≤ 1385 * length bs
unfolding blocks_text block_text Each
blocks-most [] e = omega arith
blocks-most (b ∷ bs) e =
    let few = e.0.count in
    let word = cond b.armed armed_word block_word in
    let line = line-most 125 word (b.time ∷ b.reads) (word-most b.armed) (omega arith) in
    omega (arith, length-append (line_text word (b.time ∷ b.reads)) (blocks_text bs), line, blocks-most bs e.1)

preempters-most : (ps : List Preempter) → Each (λ p. EntryWithin p.id p.reads) ps → length (preempters_text ps) ≤ 1385 * length ps
unfolding preempters_text preempter_text Each
preempters-most [] e = omega arith
preempters-most (p ∷ ps) e =
    let few = e.0.count in
    let line = line-most 125 preempter_word (p.id ∷ p.reads) (omega arith) (omega arith) in
    omega (arith, length-append (line_text preempter_word (p.id ∷ p.reads)) (preempters_text ps), line, preempters-most ps e.1)

pub text-length : (t : Task) → length (text_of t) ≡ length (header_text t.header) + (length (blocks_text t.blocks) + length (preempters_text t.preempters))
unfolding text_of
text-length t = simp length-append

pub text-most : (file : List ℕ) → IsAccepted file → length (text_of (task_of file)) ≤ 133184
text-most file h =
    let t = task_of file in
    let a = accepted file h in
    let w = accepted-within file h in
    omega (arith, text-length t, header-most t.header, blocks-most t.blocks w.blocks, preempters-most t.preempters w.preempters, block-count file, preempter-count file, a.blocks-most, a.preempters-most)

pub text-room : (file : List ℕ) → IsAccepted file → Room 0 (text_of (task_of file))
text-room file h = omega (arith, text-most file h)
