-- What a text says, line by line: the numbers of the header so far, and the blocks. Assumes nothing.
use Rattle.std.specs.Prelude.{ℕ, suc, ◌+◌, Bool, true, false, cond, ◌&&◌, List, [], ◌∷◌, ◌++◌, map, eqb, leb, ltb, length, get_or, drop, Option, None, Some}
use Rattle.model.specs.Task.{Block, Preempter, Task}
use Rattle.model.specs.Lists.{same_list}
use Rattle.model.specs.declared.Header.{Header}
use Rattle.decimals.specs.Decimals.{all_digits, value}
use Rattle.showing.specs.Text.{task_word, lines_word, limit_word, sampler_word, reload_word, switch_word, scratch_word, block_word, armed_word, preempter_word}
use Rattle.assembling.specs.Words.{words_of, lines_of}
use Rattle.assembling.specs.declared.Kind.{Kind}
use Rattle.assembling.specs.declared.Kind.TheVariants.{Basic, Armed, Preempting}

-- the header's numbers in the order of the text, id, S, Q, Q2, R, G and the scratch range's two, and the blocks
pub record Draft : Type 0 where
  pub numbers : List ℕ
  pub blocks : List Block
  pub preempters : List Preempter

abbrev pub no_draft : Draft
no_draft = record { numbers = []; blocks = []; preempters = [] }

-- a word is a number: digits alone, at most 4294967295
unfoldable pub is_number : List ℕ → Bool
is_number w = all_digits w && leb (value w) 4294967295

unfoldable pub all_numbers : List (List ℕ) → Bool
all_numbers [] = true
all_numbers (w ∷ ws) = is_number w && all_numbers ws

-- the word of the header line that comes where k numbers of the header are known
abbrev pub header_words : List (List ℕ)
header_words = task_word ∷ lines_word ∷ limit_word ∷ sampler_word ∷ reload_word ∷ switch_word ∷ scratch_word ∷ []

abbrev pub header_word : ℕ → List ℕ
header_word k = get_or header_words k []

-- its numbers: one, and two for the scratch range, which ends at 4294967296 or before; S is 1 to 512
unfoldable pub header_right : ℕ → List ℕ → Bool
header_right k ns =
    cond (eqb k 6) (eqb (length ns) 2 && leb (get_or ns 0 0 + get_or ns 1 0) 4294967296)
    (eqb (length ns) 1 && cond (eqb k 1) (leb 1 (get_or ns 0 0) && leb (get_or ns 0 0) 512) true)

abbrev pub takes_header : ℕ → List ℕ → List ℕ → Bool
takes_header k word ns = same_list word (header_word k) && header_right k ns

-- what a line of this word says behind the header's, if anything
unfoldable pub kind_of : List ℕ → Option Kind
kind_of word =
    cond (same_list word block_word) (Some Basic)
    (cond (same_list word armed_word) (Some Armed) (cond (same_list word preempter_word) (Some Preempting) None))

-- a file has room for one more of a kind: basic blocks come before all preempters, and preempters behind a basic block
unfoldable pub room_for : Kind → ℕ → ℕ → Bool
room_for Basic blocks preempters = eqb preempters 0 && ltb blocks 64
room_for Armed blocks preempters = eqb preempters 0 && ltb blocks 64
room_for Preempting blocks preempters = ltb 0 blocks && ltb preempters 32

-- a block's line has its time or its id, and at most 124 reads; a line that says nothing is not taken
abbrev pub takes_entry : ℕ → ℕ → Option Kind → List ℕ → Bool
takes_entry blocks preempters None ns = false
takes_entry blocks preempters (Some kind) ns = leb 1 (length ns) && (leb (length ns) 125 && room_for kind blocks preempters)

-- a text can go on with a line of these words; an empty line is passed over
unfoldable pub takes : Draft → List (List ℕ) → Bool
takes d [] = true
takes d (w ∷ ws) =
    all_numbers ws &&
    cond (ltb (length d.numbers) 8) (takes_header (length d.numbers) w (map value ws))
    (takes_entry (length d.blocks) (length d.preempters) (kind_of w) (map value ws))

abbrev pub block_from : Bool → List ℕ → Block
block_from armed ns = record { time = get_or ns 0 0; armed = armed; reads = drop 1 ns }

abbrev pub preempter_from : List ℕ → Preempter
preempter_from ns = record { id = get_or ns 0 0; reads = drop 1 ns }

-- what is then known
unfoldable pub with_entry : Draft → Kind → List ℕ → Draft
with_entry d Basic ns = record { numbers = d.numbers; blocks = d.blocks ++ (block_from false ns ∷ []); preempters = d.preempters }
with_entry d Armed ns = record { numbers = d.numbers; blocks = d.blocks ++ (block_from true ns ∷ []); preempters = d.preempters }
with_entry d Preempting ns = record { numbers = d.numbers; blocks = d.blocks; preempters = d.preempters ++ (preempter_from ns ∷ []) }

abbrev pub with_kind : Draft → Option Kind → List ℕ → Draft
with_kind d None ns = d
with_kind d (Some kind) ns = with_entry d kind ns

abbrev pub with_numbers : Draft → List ℕ → Draft
with_numbers d ns = record { numbers = d.numbers ++ ns; blocks = d.blocks; preempters = d.preempters }

unfoldable pub with_words : Draft → List (List ℕ) → Draft
with_words d [] = d
with_words d (w ∷ ws) =
    cond (ltb (length d.numbers) 8) (with_numbers d (map value ws)) (with_kind d (kind_of w) (map value ws))

-- all of the header is known, and a basic block
abbrev pub whole : Draft → Bool
whole d = leb 8 (length d.numbers) && ltb 0 (length d.blocks)

-- the lowest line, counted from i, at which a text cannot go on; where it ends too early, the number of its lines
unfoldable pub wrong_line : Draft → ℕ → List (List ℕ) → Option ℕ
wrong_line d i [] = cond (whole d) None (Some i)
wrong_line d i (l ∷ ls) = cond (takes d (words_of l)) (wrong_line (with_words d (words_of l)) (suc i) ls) (Some i)

-- what is known behind some lines
unfoldable pub drafted : Draft → List (List ℕ) → Draft
drafted d [] = d
drafted d (l ∷ ls) = drafted (with_words d (words_of l)) ls

abbrev pub header_from : List ℕ → Header
header_from ns =
    record {
      line_count = get_or ns 1 0;
      limit = get_or ns 2 0;
      reload = get_or ns 4 0;
      id = get_or ns 0 0;
      scratch = record { first = get_or ns 6 0; count = get_or ns 7 0 };
      second_limit = get_or ns 3 0;
      switch = get_or ns 5 0;
    }

unfoldable pub task_from : Draft → Task
task_from d = record { header = header_from d.numbers; blocks = d.blocks; preempters = d.preempters }

-- the wrong line of a text, if any, and else the task that it says
unfoldable pub wrong_in : List ℕ → Option ℕ
wrong_in text = wrong_line no_draft 0 (lines_of text)

unfoldable pub draft_in : List ℕ → Draft
draft_in text = drafted no_draft (lines_of text)

abbrev pub task_in : List ℕ → Task
task_in text = task_from (draft_in text)
