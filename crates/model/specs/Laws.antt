-- What documents 01 and 02 say of the definitions and no contract states. Each is proved in proofs/ under its name in small letters.
-- Assumes nothing.
use Rattle.model.specs.declared.Refusal.{Refusal}
use Rattle.std.specs.Prelude.{ℕ, suc, ◌+◌, ◌-◌, ◌*◌, ◌%◌, ◌≤◌, ◌<◌, min, ◌≡◌, Bool, true, false, not, cond, ◌⊎◌, eqb, leb, length, get_or, take, drop, Some, Result}
use mathlib.Core.List.{List, [], ◌∷◌, Memᴰ}
use Rattle.std.specs.Int.Count.{ones}
use Rattle.model.specs.Sets.{Lines, size, words, in_words}
use Rattle.model.specs.Task.{Task, block_count, preempter_count, line_count, second_limit}
use Rattle.model.specs.Lines.{line_of, last_read, first_read, looked_at, any_read, same_block, reads_of, preempter_reads, block_at, state_after, next_read, reads_looked_at, useful, accessed, evicted}
use Rattle.model.specs.Lists.{well_formed, before, FirstOfLeast, among, all_lists}
use Rattle.model.specs.Regions.{time_after, region_lines, region_length, region_fits, region_cost, lines, cost}
use Rattle.model.specs.Charges.{charges, sum}
use Rattle.model.specs.Replay.{Cache, miss, fetch, misses_alone, misses_with}
use Rattle.model.specs.Planning.{Planned}
use Rattle.model.specs.Cases.{Case, CaseHolds, cases}
use Rattle.model.specs.declared.Line.TheVariants.{Empty, Held}
use Rattle.model.specs.declared.Plan.{Plan}
use Rattle.model.specs.Answers.{Verdict}

-- a set's words tell of every line below 512 whether it is a member
abbrev pub WordsHold : Type 0
WordsHold = (s : Lines) (c : ℕ) → c < 512 → in_words (words s) c ≡ s c

-- the one bits of these words
unfoldable pub one_bits : List ℕ → ℕ
one_bits [] = 0
one_bits (w ∷ ws) = ones w + one_bits ws

-- counting the one bits of a set's words counts its lines
abbrev pub SizeIsOnes : Type 0
SizeIsOnes = (s : Lines) → size s ≡ one_bits (words s)

-- an empty line is never in U
abbrev pub EmptyNotUseful : Type 0
EmptyNotUseful = (t : Task) (k c : ℕ) → state_after t k c ≡ Empty → useful t k c ≡ false

-- so U(0) is empty
abbrev pub UsefulStart : Type 0
UsefulStart = (t : Task) (c : ℕ) → useful t 0 c ≡ false

-- and so is U(N)
abbrev pub UsefulEnd : Type 0
UsefulEnd = (t : Task) (c : ℕ) → useful t (block_count t) c ≡ false

-- memory block m lies on line c by its remainder alone, as document 01 has it
abbrev pub on_remainder : Task → ℕ → ℕ → Bool
on_remainder t c m = eqb c (m % line_count t)

-- whatever sees the line of a number sees its remainder by S: states, next reads, the reads that a search looks at, T, H, and what a read of a
-- replay misses and loads. U, regions, prices, plans and misses are made of these
pub record SeesRemainders (t : Task) : Type 0 where
  pub line : (m : ℕ) → line_of t m ≡ Some (m % line_count t)
  pub state : (k c : ℕ) → state_after t k c ≡ last_read (on_remainder t c) Empty (reads_of (take k t.blocks))
  pub next : (k c : ℕ) → next_read t k c ≡ first_read (on_remainder t c) (reads_of (drop k t.blocks))
  pub looked : (k c : ℕ) → reads_looked_at t k c ≡ looked_at (on_remainder t c) (reads_of (drop k t.blocks))
  pub accesses : (i c : ℕ) → accessed t (suc i) c ≡ any_read (on_remainder t c) (block_at t i).reads
  pub evicts : (c : ℕ) → evicted t c ≡ any_read (on_remainder t c) (preempter_reads t.preempters)
  pub misses : (s : Cache) (m : ℕ) → miss t s m ≡ not (same_block (s (m % line_count t)) (Held m))
  pub loads : (s : Cache) (m c : ℕ) → fetch t s m c ≡ cond (on_remainder t c m) (Held m) (s c)

-- with no scratch range the definitions are what they were without one (document 02, item 5)
abbrev pub NoScratch : Type 0
NoScratch = (t : Task) → t.header.scratch.count ≡ 0 → SeesRemainders t

-- where the sampler is armed in no block of a region, its fit is what it was, whatever Q2 (document 02, item 9)
abbrev pub NoneArmed : Type 0
NoneArmed =
    (t : Task) (a b : ℕ) → ((i : ℕ) → a ≤ i → i < b → (block_at t i).armed ≡ false)
    → region_fits t a b ≡ leb (region_length t a b) t.header.limit

-- where it is armed in one, the fit is that of the smaller of the two limits
abbrev pub OneArmed : Type 0
OneArmed =
    (t : Task) (a b i : ℕ) → a ≤ i → i < b → (block_at t i).armed ≡ true
    → region_fits t a b ≡ leb (region_length t a b) (min t.header.limit (second_limit t))

-- so of every region where it is armed in all blocks
abbrev pub AllArmed : Type 0
AllArmed =
    (t : Task) → ((i : ℕ) → i < block_count t → (block_at t i).armed ≡ true) → (a b : ℕ) → a < b → b ≤ block_count t
    → region_fits t a b ≡ leb (region_length t a b) (min t.header.limit (second_limit t))

-- a list's price is R times its lines, and G times its points (document 02, item 14)
abbrev pub CostOfLines : Type 0
CostOfLines =
    (t : Task) (ps : List ℕ) → well_formed (block_count t) ps ≡ true → cost t ps ≡ t.header.reload * lines t ps + t.header.switch * length ps

-- with G 0 a region's length and its cost are what they were
abbrev pub NoSwitch : Type 0
NoSwitch =
    (t : Task) → t.header.switch ≡ 0 → (a b : ℕ)
    → (region_length t a b ≡ time_after t a (b - a) + t.header.reload * region_lines t a b) × (region_cost t a b ≡ t.header.reload * region_lines t a b)

-- the charges of a list add up to its lines, whether it is well formed and fits or not (document 02, item 10); a file has at most 32 preempters
abbrev pub ChargesAddUp : Type 0
ChargesAddUp = (t : Task) → preempter_count t ≤ 32 → (ps : List ℕ) → sum (charges t ps) ≡ lines t ps

-- and from index M on they are 0
abbrev pub NoChargeFrom : Type 0
NoChargeFrom = (t : Task) (ps : List ℕ) (i : ℕ) → preempter_count t ≤ i → get_or (charges t ps) i 0 ≡ 0

-- all lists of points, of which demand 3 speaks and which the cases try: every well-formed list, the empty one too, and no other
abbrev pub Enumerated : Type 0
Enumerated = (n : ℕ) → 0 < n → (ps : List ℕ) → among ps (all_lists n) ≡ well_formed n ps

-- the order of lists puts no list before itself
abbrev pub BeforeIrreflexive : Type 0
BeforeIrreflexive = (ps : List ℕ) → before ps ps ≡ false

-- it goes on from list to list
abbrev pub BeforeTransitive : Type 0
BeforeTransitive = (ps qs rs : List ℕ) → before ps qs ≡ true → before qs rs ≡ true → before ps rs ≡ true

-- and of two different lists it puts one before the other (document 02, item 1)
abbrev pub BeforeTotal : Type 0
BeforeTotal = (ps qs : List ℕ) → (ps ≡ qs → ⊥) → (before ps qs ≡ true) ⊎ (before qs ps ≡ true)

-- so one list at most is the first of least cost
abbrev pub OneFirst : Type 0
OneFirst =
    (n : ℕ) (fit : ℕ → ℕ → Bool) (cost : ℕ → ℕ → ℕ) (ps qs : List ℕ) → FirstOfLeast n fit cost ps → FirstOfLeast n fit cost qs → ps ≡ qs

-- and one answer of planning at most is right for a task, plan or refusal
abbrev pub OnePlan : Type 0
OnePlan = (t : Task) (r s : Result Plan Refusal) → Planned t r → Planned t s → r ≡ s

-- a replay with points misses once more for each of the list's lines, within the limit or not (document 02, item 4)
abbrev pub AddedMisses : Type 0
AddedMisses =
    (t : Task) → 1 ≤ line_count t → line_count t ≤ 512 → (ps : List ℕ) → well_formed (block_count t) ps ≡ true
    → misses_with t ps ≡ misses_alone t + lines t ps

-- the cases marked P hold of the definitions, jointly
abbrev pub CasesHold : Type 0
CasesHold = (c : Case) → Memᴰ c cases → CaseHolds c
