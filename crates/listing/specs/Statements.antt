-- What is shown of numbers, of the call and of its listing beside the contract (document 02, item 12). Assumes nothing.
use Rattle.model.specs.declared.Refusal.{Refusal}
use Rattle.std.specs.Prelude.{ℕ, suc, ◌-◌, ◌^◌, ◌≤◌, ◌<◌, ◌≡◌, true, ◌↔◌, length, get_or, Err, None, Option, Some, Ok, Result}
use mathlib.Core.List.{List, [], ◌∷◌, map, Memᴰ}
use Rattle.model.specs.Task.{Task, block_count}
use Rattle.model.specs.Lists.{well_formed}
use Rattle.model.specs.Regions.{lines, cost, fits}
use Rattle.model.specs.Cases.{file_seven}
use Rattle.model.specs.declared.Plan.{Plan}
use Rattle.model.specs.declared.Refusal.TheVariants.{NoPlacement}
use Rattle.model.specs.Answers.{accept, Verdict}
use Rattle.taskfile.specs.File.{task_of}
use Rattle.planner.specs.Calls.{PlanAnswer}
use Rattle.enumerating.specs.Numbers.{number_of, list_of}
use Rattle.enumerating.specs.Search.{next_in}
use Rattle.listing.specs.Calls.{list_verdict, next_of}
use Rattle.enumerating.specs.declared.FittingList.{FittingList}

-- the numbers below 2 ^ (n - 1) and the well-formed lists for n blocks determine each other: each list has such a number, which is its own alone
abbrev pub NumberOfList : Type 0
NumberOfList = (n : ℕ) → 0 < n → (ps : List ℕ) → well_formed n ps ≡ true → (number_of ps < 2 ^ (n - 1)) × (list_of n (number_of ps) ≡ ps)

-- and each such number has a list
abbrev pub ListOfNumber : Type 0
ListOfNumber = (n : ℕ) → 0 < n → (m : ℕ) → m < 2 ^ (n - 1) → (well_formed n (list_of n m) ≡ true) × (number_of (list_of n m) ≡ m)

-- a well-formed list with its number, its lines and its cost
abbrev pub entry_of_list : Task → List ℕ → FittingList
entry_of_list t ps = record { number = number_of ps; lines = lines t ps; cost = cost t ps }

-- a well-formed list of a task that fits
abbrev pub FitsWell : Task → List ℕ → Type 0
FitsWell t ps = (well_formed (block_count t) ps ≡ true) × (fits t ps ≡ true)

-- what the call finds is a fitting list with a number at or above the start, and no fitting list has a lower one
pub record IsNext (t : Task) (start : ℕ) (l : FittingList) : Type 0 where
  pub above : start ≤ l.number
  pub list : (ps : List ℕ) × FitsWell t ps × (l ≡ entry_of_list t ps)
  pub lowest : (ps : List ℕ) → FitsWell t ps → start ≤ number_of ps → l.number ≤ number_of ps

abbrev pub FindsLowest : Type 0
FindsLowest =
    (file : List ℕ) (start : ℕ) → list_verdict file ≡ accept → (l : FittingList) → next_of file start ≡ Some l → IsNext (task_of file) start l

-- and it says "no more" exactly where no fitting list has such a number
abbrev pub FindsNoMore : Type 0
FindsNoMore =
    (file : List ℕ) (start : ℕ) → list_verdict file ≡ accept
    → (next_of file start ≡ None) ↔ ((ps : List ℕ) → FitsWell (task_of file) ps → start ≤ number_of ps → ⊥)

-- the listing from a start: what the call finds, then what it finds from one above that number, and so on until it says "no more"
unfoldable pub Listed : (ℕ → Option FittingList) → ℕ → List FittingList → Type 0
Listed next start [] = next start ≡ None
Listed next start (l ∷ ls) = (next start ≡ Some l) × Listed next (suc l.number) ls

-- a file has one listing, and it ends after at most 2 ^ (N - 1) lists
abbrev pub ListingEnds : Type 0
ListingEnds =
    (file : List ℕ) → list_verdict file ≡ accept
    → (ls : List FittingList) × Listed (next_of file) 0 ls × (length ls ≤ 2 ^ (block_count (task_of file) - 1))
    × ((ms : List FittingList) → Listed (next_of file) 0 ms → ms ≡ ls)

-- it holds every fitting list, and no other; its numbers rise, so it holds each list once
pub record AllLists (t : Task) (ls : List FittingList) : Type 0 where
  pub every : (ps : List ℕ) → FitsWell t ps → Memᴰ (entry_of_list t ps) ls
  pub only : (l : FittingList) → Memᴰ l ls → (ps : List ℕ) × FitsWell t ps × (l ≡ entry_of_list t ps)
  pub rising : (i j : ℕ) → i < j → j < length ls → get_or (map (λ l. l.number) ls) i 0 < get_or (map (λ l. l.number) ls) j 0

abbrev pub ListsAll : Type 0
ListsAll = (file : List ℕ) → list_verdict file ≡ accept → (ls : List FittingList) → Listed (next_of file) 0 ls → AllLists (task_of file) ls

-- its lowest cost is that of the planner's plan
abbrev pub LowestIsPlanned : Type 0
LowestIsPlanned =
    (file : List ℕ) → list_verdict file ≡ accept → (ls : List FittingList) → Listed (next_of file) 0 ls
    → (p : Plan) → PlanAnswer file (Ok p)
    → ((l : FittingList) × Memᴰ l ls × (l.cost ≡ p.cost)) × ((l : FittingList) → Memᴰ l ls → p.cost ≤ l.cost)

-- and it is empty exactly when planning answers 6
abbrev pub EmptyIsRefused : Type 0
EmptyIsRefused =
    (file : List ℕ) → list_verdict file ≡ accept → (ls : List FittingList) → Listed (next_of file) 0 ls
    → (r : Result Plan Refusal) → PlanAnswer file r → (ls ≡ []) ↔ (r ≡ Err NoPlacement)

-- document 02's worked case: File Seven at Q 40 has the lists 6 and 7, of cost 20
abbrev pub SevenListed : Type 0
SevenListed = Listed (next_in (file_seven 4 40)) 0 (record { number = 6; lines = 2; cost = 20 } ∷ record { number = 7; lines = 2; cost = 20 } ∷ [])
