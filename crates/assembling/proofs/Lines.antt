-- A text read line by line: what the lines so far have come to, and what is left.
-- Assumes nothing.
use Rattle.std.specs.Prelude.{None, Some}
use Prim.Native.Nat.{ℕ, ◌+◌, ◌≤◌, ◌<◌}
use Rattle.std.specs.Option.{is_some}
use Rattle.std.proofs.Common.{Option, Some}
use mathlib.Core.Path.{◌≡◌, refl, ap, ◌∙◌}
use mathlib.Core.Bool.{true, false}
use mathlib.Core.List.{List, [], ◌∷◌}
use native.Mathlib.Numerals.{add-one}
use native.Mathlib.Omega.{arith}
use lib.ListN.{length, drop, length-append, length-drop}
use Rattle.block.specs.Blocks.{sealed_blocks}
use Rattle.taskfile.specs.File.{whole_blocks}
use Rattle.writer.specs.Writing.{Appended}
use Rattle.assembling.specs.Words.{is_line_byte, lines_of, words_of}
use Rattle.assembling.specs.Drafts.{Draft, no_draft, with_words, whole, wrong_line, drafted, wrong_in, draft_in}
use Rattle.assembling.specs.Steps.{Knows, Stored, TakesLine}
use Rattle.assembling.specs.declared.Known.{Known}
use Rattle.assembling.proofs.Spans.{Run, nothing, first-line}

pub record ReadTo (text file : List ℕ) (known : Known) (line : ℕ) (rest : List ℕ) : Type 0 where
  pub draft : Draft
  pub knows : Knows draft known
  pub stored : Stored draft file
  pub place : wrong_in text ≡ wrong_line draft line (lines_of rest)
  pub left : draft_in text ≡ drafted draft (lines_of rest)
  pub few : (known.blocks ≤ 64) × (known.preempters ≤ 32)
  pub long : length file ≡ 49664
  pub counted : line + length rest ≤ length text

pub read_none : (text file : List ℕ) (header : List ℕ) → length header ≡ 8 → length file ≡ 49664
    → ReadTo text file (record { given = 0; header = header; blocks = 0; preempters = 0 }) 0 text
unfolding wrong_in draft_in Appended sealed_blocks whole_blocks
read_none text file header e h =
    record {
      draft = no_draft;
      knows = record { given = refl; header = refl; room = e; blocks = refl; preempters = refl };
      stored = refl;
      place = refl;
      left = refl;
      few = (omega arith, omega arith);
      long = h;
      counted = omega arith;
    }

module _ {text file : List ℕ} {known : Known} {line : ℕ} {rest : List ℕ} (s : ReadTo text file known line rest) (inside : 0 < length rest) {here left : List ℕ}
    (span : Run is_line_byte rest here left) (r : Option Known) (new : List ℕ) (taken : TakesLine s.draft (words_of here) r new) where
  first : lines_of rest ≡ here ∷ lines_of (drop 1 left)
  first = first-line inside span

  pub read-wrong : is_some r ≡ false → wrong_in text ≡ Some line
  unfolding wrong_line
  read-wrong e = s.place ∙ rw (first, ← taken.right, e) refl

  pub read_more : (k : Known) (behind : List ℕ) → r ≡ Some k → (k.blocks ≤ 64) × (k.preempters ≤ 32) → length new ≡ 49664 → behind ≡ drop 1 left
      → ReadTo text new k (line + 1) behind
  unfolding wrong_line drafted
  read_more k behind e few long b =
      rw b
      (record {
        draft = with_words s.draft (words_of here);
        knows = (taken.known k e).0;
        stored = (taken.known k e).1;
        place = s.place ∙ rw (first, ← taken.right, e, add-one line) refl;
        left = s.left ∙ rw first refl;
        few = few;
        long = long;
        counted = omega (arith, s.counted, length-drop 1 left, ap length span.whole, length-append here left);
      })

module _ {text file : List ℕ} {known : Known} {line : ℕ} {rest : List ℕ} (s : ReadTo text file known line rest) (past : length rest ≡ 0) where
  no_line : rest ≡ []
  no_line = nothing rest past

  pub read_all : draft_in text ≡ s.draft
  unfolding drafted lines_of
  read_all = s.left ∙ rw no_line refl

  pub read_whole : whole s.draft ≡ true → wrong_in text ≡ None
  unfolding wrong_line lines_of
  read_whole e = s.place ∙ rw (no_line, e) refl

  pub read_short : whole s.draft ≡ false → wrong_in text ≡ Some line
  unfolding wrong_line lines_of
  read_short e = s.place ∙ rw (no_line, e) refl
