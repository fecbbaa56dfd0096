-- What the steps of the reader leave to each other: parts of a line, numbers in an array, and what is known behind a line. Assumes nothing.
use Rattle.std.specs.Prelude.{ℕ, ◌≤◌, ◌<◌, ◌≡◌, Bool, true, false, cond, ◌&&◌, List, [], ◌∷◌, ◌++◌, map, leb, ltb, length, get_or, take, Option, None, Some, is_some, Result, Ok, Err}
use Rattle.taskfile.specs.File.{basic_bytes, preempter_bytes}
use Rattle.writer.specs.Writing.{Appended}
use Rattle.decimals.specs.Decimals.{value}
use Rattle.model.specs.Answers.{accept, Verdict}
use Rattle.model.specs.declared.Refusal.{Refusal}
use Rattle.assembling.specs.Words.{words_of}
use Rattle.assembling.specs.Drafts.{Draft, is_number, all_numbers, takes, with_words, block_from, preempter_from}
use Rattle.assembling.specs.declared.Kind.{Kind}
use Rattle.assembling.specs.declared.Kind.TheVariants.{Basic, Armed, Preempting}
use Rattle.assembling.specs.declared.Known.{Known}

-- f holds of each byte
unfoldable pub all_are : (ℕ → Bool) → List ℕ → Bool
all_are f [] = true
all_are f (b ∷ bs) = f b && all_are f bs

-- `run` has the bytes up to the first that is not right, by the answers R of a test, and `rest` has that byte and what is behind it
pub record Splits (R : ℕ → Bool → Type 0) (bytes run rest : List ℕ) : Type 0 where
  pub whole : run ++ rest ≡ bytes
  pub all : (k : ℕ) → k < length run → R (get_or run k 0) true
  pub ends : 0 < length rest → R (get_or rest 0 0) false

-- the first word of a line, and what is behind it
pub record FirstWord (line word left : List ℕ) : Type 0 where
  pub some : 0 < length word
  pub words : words_of line ≡ word ∷ words_of left
  pub shorter : length left < length line

-- the number that a word says, if it has a byte
unfoldable pub number_in : List ℕ → Option ℕ
number_in w = cond (ltb 0 (length w) && is_number w) (Some (value w)) None

-- at most 125 words that are all numbers, in an array
pub record NumbersRead (words : List (List ℕ)) (numbers : List ℕ) (r : Option ℕ) : Type 0 where
  pub right : is_some r ≡ (all_numbers words && leb (length words) 125)
  pub held : (count : ℕ) → r ≡ Some count → (count ≤ 125) × (take count numbers ≡ map value words)
  pub long : length numbers ≡ 125

-- what the code knows of a draft: its numbers in an array, and how many blocks there are
pub record Knows (d : Draft) (k : Known) : Type 0 where
  pub given : k.given ≡ length d.numbers
  pub header : take k.given k.header ≡ d.numbers
  pub room : length k.header ≡ 8
  pub blocks : k.blocks ≡ length d.blocks
  pub preempters : k.preempters ≡ length d.preempters

-- the named bytes of a block that a line says, and of all blocks of a draft
unfoldable pub entry_named : Kind → List ℕ → List ℕ
entry_named Basic ns = basic_bytes (block_from false ns)
entry_named Armed ns = basic_bytes (block_from true ns)
entry_named Preempting ns = preempter_bytes (preempter_from ns)

abbrev pub names_of : Draft → List (List ℕ)
names_of d = map basic_bytes d.blocks ++ map preempter_bytes d.preempters

-- a buffer holds the blocks of a draft, all but their checksums
abbrev pub Stored : Draft → List ℕ → Type 0
Stored d file = Appended 0 (names_of d) [] file

-- what the code makes of a line: what is then known, if the text can go on with it
pub record TakesLine (d : Draft) (words : List (List ℕ)) (r : Option Known) (file : List ℕ) : Type 0 where
  pub right : is_some r ≡ takes d words
  pub known : (k : Known) → r ≡ Some k → Knows (with_words d words) k × Stored (with_words d words) file

-- a reader's refusal, if it refuses
abbrev pub refusal_of : Result Known Refusal → Verdict
refusal_of (Ok k) = accept
refusal_of (Err x) = Err x
