-- The listing of a file is the entries, one after the other, of the numbers whose lists fit: by induction on how many numbers are left. So whatever
-- is said of its members is said of numbers, and numbers and well-formed lists determine each other. Assumes nothing.
use Rattle.std.specs.Prelude.{None, Option, Some, Ok}
use Rattle.model.specs.Answers.{accept}
use Prim.Native.Nat.{ℕ, zero, suc, ◌+◌, ◌-◌, ◌^◌, ◌≤◌, ◌<◌}
use mathlib.Core.Path.{◌≡◌, refl, sym, ap, ap₂, ◌∙◌}
use mathlib.Core.Bool.{Bool, true, false, cond, not, false≢true}
use mathlib.Core.Logic.{⊎_elim, by_cases}
use mathlib.Core.List.Memᴰ
use mathlib.Core.List.{List, [], ◌∷◌, map, Memᴰ}
use native.Mathlib.Nat.{le_refl}
use native.Mathlib.Numerals.{add-one}
use native.Mathlib.Omega.{arith}
use native.Mathlib.Decide.{ℕ_discrete, dec_le}
use lib.ListN.{length, get_or}
use Rattle.model.specs.Task.{Task, block_count}
use Rattle.model.specs.Lists.{lowest_from}
use Rattle.model.specs.Regions.{region_lines, region_fits, region_cost, lines, cost, fits}
use Rattle.model.specs.Planning.{chosen, plan_for, Planned}
use Rattle.model.specs.declared.Plan.{Plan}
use Rattle.model.proofs.Lowest.{scan-next, scan-here, scan-end, lowest-nowhere, nowhere-lowest, lowest-within}
use Rattle.taskfile.specs.File.{task_of}
use Rattle.enumerating.specs.Numbers.{number_of, list_of}
use Rattle.enumerating.specs.Search.{passed_over, next_number, entry_of, found_at}
use Rattle.listing.specs.Calls.{list_verdict, next_of}
use Rattle.listing.specs.Statements.{entry_of_list, FitsWell, IsNext, FindsLowest, FindsNoMore, Listed, ListingEnds, AllLists, ListsAll, LowestIsPlanned, EmptyIsRefused}
use Rattle.enumerating.specs.declared.FittingList.{FittingList}
use Rattle.listing.proofs.Accepted.{is-accepted, positive, next-listed}
use Rattle.enumerating.proofs.Numbers.{list_right}
use Rattle.enumerating.proofs.Searching.{lowest-found}
use Rattle.listing.proofs.Numbers.{number-of-list, list-of-number}

-- of k numbers from s on, the entries of those that f does not pass over
kept : (ℕ → Bool) → (ℕ → FittingList) → ℕ → ℕ → List FittingList
kept f entry s zero = []
kept f entry s (suc k) = cond (f s) (kept f entry (suc s) k) (entry s ∷ kept f entry (suc s) k)

-- a member is the entry of one of these numbers, which is not passed over
record Kept (f : ℕ → Bool) (entry : ℕ → FittingList) (s k : ℕ) (l : FittingList) : Type 0 where
  number : ℕ
  above : s ≤ number
  below : number < s + k
  stays : f number ≡ false
  is : l ≡ entry number

numbers : List FittingList → List ℕ
numbers ls = map (λ l. l.number) ls

module _ (f : ℕ → Bool) (entry : ℕ → FittingList) where
  kept-few : (s k : ℕ) → length (kept f entry s k) ≤ k
  unfolding kept
  kept-few s zero = omega arith
  kept-few s (suc k) = go (f s) (kept-few (suc s) k)
    where
      go : (x : Bool) → length (kept f entry (suc s) k) ≤ k → length (cond x (kept f entry (suc s) k) (entry s ∷ kept f entry (suc s) k)) ≤ suc k
      go true h = omega arith
      go false h = omega arith

  kept_in : (s k m : ℕ) → s ≤ m → m < s + k → f m ≡ false → Memᴰ (entry m) (kept f entry s k)
  unfolding kept
  kept_in s zero m h l e = absurd (omega arith)
  kept_in s (suc k) m h l e = go (f s) refl (λ q. kept_in (suc s) k m (omega arith) (omega arith) e)
    where
      go : (x : Bool) → f s ≡ x → ((m ≡ s → ⊥) → Memᴰ (entry m) (kept f entry (suc s) k))
          → Memᴰ (entry m) (cond x (kept f entry (suc s) k) (entry s ∷ kept f entry (suc s) k))
      go true p later = later (λ q. false≢true (sym e ∙ ap f q ∙ p))
      go false p later = by_cases (ℕ_discrete m s) (λ q. Memᴰ.head (ap entry q)) (λ q. Memᴰ.tail (later q))

  kept-later : (s k : ℕ) (l : FittingList) → Kept f entry (suc s) k l → Kept f entry s (suc k) l
  kept-later s k l r =
      record { number = r.number; above = omega (arith, r.above); below = omega (arith, r.below); stays = r.stays; is = r.is }

  kept-only : (s k : ℕ) (l : FittingList) → Memᴰ l (kept f entry s k) → Kept f entry s k l
  unfolding kept
  kept-only s zero l h = absurd (Memᴰ.not-nil h)
  kept-only s (suc k) l h = go (f s) refl h (kept-only (suc s) k l)
    where
      go : (x : Bool) → f s ≡ x → Memᴰ l (cond x (kept f entry (suc s) k) (entry s ∷ kept f entry (suc s) k))
          → (Memᴰ l (kept f entry (suc s) k) → Kept f entry (suc s) k l) → Kept f entry s (suc k) l
      go true p h later = kept-later s k l (later h)
      go false p h later =
          ⊎_elim (λ e. record { number = s; above = le_refl s; below = omega arith; stays = p; is = e }) (λ h. kept-later s k l (later h))
          (Memᴰ.cases_cons h)

  module _ (numbered : (m : ℕ) → (entry m).number ≡ m) where
    kept_above : (s k i : ℕ) → i < length (kept f entry s k) → s ≤ get_or (numbers (kept f entry s k)) i 0
    unfolding kept numbers
    kept_above s zero i h = absurd (omega arith)
    kept_above s (suc k) i h = go (f s) i h (kept_above (suc s) k)
      where
        go : (x : Bool) (i : ℕ) → i < length (cond x (kept f entry (suc s) k) (entry s ∷ kept f entry (suc s) k))
            → ((i : ℕ) → i < length (kept f entry (suc s) k) → suc s ≤ get_or (numbers (kept f entry (suc s) k)) i 0)
            → s ≤ get_or (numbers (cond x (kept f entry (suc s) k) (entry s ∷ kept f entry (suc s) k))) i 0
        go true i h later = omega (arith, later i h)
        go false zero h later = omega (arith, numbered s)
        go false (suc i) h later = omega (arith, later i (omega arith))

    kept-rising : (s k i j : ℕ) → i < j → j < length (kept f entry s k)
        → get_or (numbers (kept f entry s k)) i 0 < get_or (numbers (kept f entry s k)) j 0
    unfolding kept numbers
    kept-rising s zero i j h l = absurd (omega arith)
    kept-rising s (suc k) i j h l = go (f s) i j h l (kept-rising (suc s) k)
      where
        go : (x : Bool) (i j : ℕ) → i < j → j < length (cond x (kept f entry (suc s) k) (entry s ∷ kept f entry (suc s) k))
            → ((i j : ℕ) → i < j → j < length (kept f entry (suc s) k)
            → get_or (numbers (kept f entry (suc s) k)) i 0 < get_or (numbers (kept f entry (suc s) k)) j 0)
            → get_or (numbers (cond x (kept f entry (suc s) k) (entry s ∷ kept f entry (suc s) k))) i 0
            < get_or (numbers (cond x (kept f entry (suc s) k) (entry s ∷ kept f entry (suc s) k))) j 0
        go true i j h l later = later i j h l
        go false i zero h l later = absurd (omega arith)
        go false zero (suc j) h l later = omega (arith, numbered s, kept_above (suc s) k j (omega arith))
        go false (suc i) (suc j) h l later = later i j (omega arith) (omega arith)

-- a list that is not passed over fits
stays-fits : (b : Bool) → not b ≡ false → b ≡ true
stays-fits true e = refl
stays-fits false e = absurd (false≢true (sym e))

-- for a task of n blocks: what the numbers below 2 ^ (n - 1) say of its fitting lists
over : Task → ℕ → Bool
over t = passed_over (region_fits t) (block_count t)

entry : Task → ℕ → FittingList
entry t = entry_of (region_lines t) (region_cost t) (block_count t)

last : Task → ℕ
last t = 2 ^ (block_count t - 1)

module _ (t : Task) (positive : 0 < block_count t) where
  -- a fitting list has a number that is not passed over, and its entry
  list-stays : (ps : List ℕ) → FitsWell t ps → over t (number_of ps) ≡ false
  unfolding over
  list-stays ps w =
      let is = (number-of-list (block_count t) positive ps w.0).1 in ap not (ap (fits t) is ∙ w.1)

  list-entry : (ps : List ℕ) → FitsWell t ps → entry_of_list t ps ≡ entry t (number_of ps)
  unfolding entry entry_of
  list-entry ps w =
      let is = (number-of-list (block_count t) positive ps w.0).1 in
      λ i. record { number = number_of ps; lines = lines t (sym is i); cost = cost t (sym is i) }

  -- a number that is not passed over is that of a fitting list
  number_fits : (m : ℕ) → over t m ≡ false → FitsWell t (list_of (block_count t) m)
  unfolding over
  number_fits m e = (list_right (block_count t) m positive, stays-fits _ e)

  number-entry : (m : ℕ) → m < last t → entry t m ≡ entry_of_list t (list_of (block_count t) m)
  unfolding entry entry_of last
  number-entry m h =
      let is = (list-of-number (block_count t) positive m h).1 in
      λ i. record { number = sym is i; lines = lines t (list_of (block_count t) m); cost = cost t (list_of (block_count t) m) }

  all-kept : AllLists t (kept (over t) (entry t) 0 (last t))
  unfolding entry entry_of last numbers
  all-kept =
      record {
        every = λ ps w.
            rw (list-entry ps w)
            (kept_in (over t) (entry t) 0 (last t) (number_of ps) (omega arith) (omega (arith, (number-of-list (block_count t) positive ps w.0).0)) (list-stays ps w));
        only = λ l h.
            let r = kept-only (over t) (entry t) 0 (last t) l h in
            (list_of (block_count t) r.number, number_fits r.number r.stays, r.is ∙ number-entry r.number (omega (arith, r.below)));
        rising = kept-rising (over t) (entry t) (λ m. refl) 0 (last t);
      }

module _ (file : List ℕ) (listed : list_verdict file ≡ accept) where
  -- the call finds the lowest number that is not passed over
  next-is : (start : ℕ) → next_of file start ≡ found_at (entry (task_of file)) (lowest_from (over (task_of file)) start (last (task_of file) - start))
  unfolding next_number over entry last
  next-is start = next-listed file listed start

  moved : (s r : ℕ) (ls : List FittingList) → next_of file s ≡ next_of file r → Listed (next_of file) r ls → Listed (next_of file) s ls
  unfolding Listed
  moved s r [] e h = e ∙ h
  moved s r (l ∷ ls) e h = (e ∙ h.0, h.1)

  next-passed : (s : ℕ) → s < last (task_of file) → over (task_of file) s ≡ true → next_of file s ≡ next_of file (suc s)
  next-passed s h e =
      let t = task_of file in
      let one_less : last t - s - 1 ≡ last t - suc s = omega arith in
      next-is s ∙
      ap (found_at (entry t)) (scan-next (over t) s (suc s) (last t - s) (λ z. omega arith) (sym (add-one s)) e ∙ ap (lowest_from (over t) (suc s)) one_less) ∙
      sym (next-is (suc s))

  next_here : (s : ℕ) → s < last (task_of file) → over (task_of file) s ≡ false → next_of file s ≡ Some (entry (task_of file) s)
  next_here s h e =
      let t = task_of file in next-is s ∙ ap (found_at (entry t)) (scan-here (over t) s (last t - s) (λ z. omega arith) e)

  next-end : next_of file (last (task_of file)) ≡ None
  next-end = let t = task_of file in next-is (last t) ∙ ap (found_at (entry t)) (scan-end (over t) (last t) (last t - last t) (omega arith))

  kept-listed : (k s : ℕ) → s + k ≡ last (task_of file) → Listed (next_of file) s (kept (over (task_of file)) (entry (task_of file)) s k)
  unfolding Listed kept entry entry_of
  kept-listed zero s e = let end : s ≡ last (task_of file) = omega arith in rw end next-end
  kept-listed (suc k) s e = go (over (task_of file) s) refl _ (kept-listed k (suc s) (omega arith))
    where
      go : (x : Bool) → over (task_of file) s ≡ x → (ls : List FittingList) → Listed (next_of file) (suc s) ls → Listed (next_of file) s (cond x ls (entry (task_of file) s ∷ ls))
      go true p ls later = moved s (suc s) ls (next-passed s (omega arith) p) later
      go false p ls later = (next_here s (omega arith) p, later)

  one-listing : (s : ℕ) (ls ms : List FittingList) → Listed (next_of file) s ls → Listed (next_of file) s ms → ls ≡ ms
  unfolding Listed
  one-listing s [] [] h g = refl
  one-listing s [] (m ∷ ms) h g = let e = sym h ∙ g.0 in let z : ◌≡◌ {A = ℕ} 0 1 = cc in absurd (omega arith)
  one-listing s (l ∷ ls) [] h g = let e = sym h.0 ∙ g in let z : ◌≡◌ {A = ℕ} 0 1 = cc in absurd (omega arith)
  one-listing s (l ∷ ls) (m ∷ ms) h g =
      let e = sym h.0 ∙ g.0 in
      let same : l ≡ m = cc in
      ap₂ ◌∷◌ same (one-listing (suc l.number) ls ms h.1 (rw same g.1))

  is-kept : (ls : List FittingList) → Listed (next_of file) 0 ls → ls ≡ kept (over (task_of file)) (entry (task_of file)) 0 (last (task_of file))
  is-kept ls h = one-listing 0 ls _ h (kept-listed (last (task_of file)) 0 (omega arith))

pub listing-ends : ListingEnds
unfolding last
listing-ends file listed =
    let t = task_of file in (
      kept (over t) (entry t) 0 (last t),
      kept-listed file listed (last t) 0 (omega arith),
      kept-few (over t) (entry t) 0 (last t),
      λ ms h. is-kept file listed ms h,
    )

pub lists-all : ListsAll
lists-all file listed ls h = rw (is-kept file listed ls h) (all-kept (task_of file) (positive file listed))

pub lowest-is-planned : LowestIsPlanned
unfolding plan_for
lowest-is-planned file listed ls h p answer =
    let t = task_of file in
    let all = lists-all file listed ls h in
    let planned : Planned t (Ok p) = answer.planned (is-accepted file listed) in
    let best = (planned.best p refl).least-cost in
    let cost-is : p.cost ≡ cost t (chosen p) = ap (λ (q : Plan). q.cost) (planned.follows p refl) in (
      (entry_of_list t (chosen p), all.every (chosen p) (best.well-formed, best.fits), sym cost-is),
      λ l m.
          let r = all.only l m in
          rw (cost-is, ap (λ (q : FittingList). q.cost) r.2) (best.least r.0 r.1.0 r.1.1),
    )

pub empty-is-refused : EmptyIsRefused
empty-is-refused file listed ls h r answer =
    let t = task_of file in
    let all = lists-all file listed ls h in
    let planned : Planned t r = answer.planned (is-accepted file listed) in (
      λ e. planned.exactly (λ ps w f. Memᴰ.not-nil (rw e at (all.every ps (w, f)))),
      λ e. none ls (λ l m. let q = all.only l m in planned.none-fits e q.0 q.1.0 q.1.1),
    )
  where
    none : (ls : List FittingList) → ((l : FittingList) → Memᴰ l ls → ⊥) → ls ≡ []
    none [] h = refl
    none (l ∷ ls) h = absurd (h l (Memᴰ.head refl))

pub finds-lowest : FindsLowest
unfolding last entry entry_of
finds-lowest file start listed l e = go (lowest_from (over (task_of file)) start (last (task_of file) - start)) refl (sym (next-is file listed start) ∙ e)
  where
    go : (x : Option ℕ) → lowest_from (over (task_of file)) start (last (task_of file) - start) ≡ x → found_at (entry (task_of file)) x ≡ Some l
        → IsNext (task_of file) start l
    go None p q = let z : ◌≡◌ {A = ℕ} 0 1 = cc in absurd (omega arith)
    go (Some m) p q =
        let t = task_of file in
        let is : entry t m ≡ l = cc in
        let found = lowest-found (over t) start (last t - start) m p in
        let number_is : l.number ≡ m = ap (λ (l : FittingList). l.number) (sym is) in
        let below : m < last t = omega (arith, lowest-within (over t) start (last t - start) m p, found.above) in
        record {
          above = rw number_is found.above;
          list =
              (list_of (block_count t) m, number_fits t (positive file listed) m found.stays, sym is ∙ number-entry t (positive file listed) m below);
          lowest = λ ps w h.
              by_cases (dec_le l.number (number_of ps)) (λ k. k)
              (λ k. absurd (false≢true (sym (list-stays t (positive file listed) ps w) ∙ found.before (number_of ps) h (omega arith))));
        }

pub finds-no-more : FindsNoMore
unfolding last
finds-no-more file start listed =
    let t = task_of file in (
      λ e ps w h.
          false≢true
          (sym (list-stays t (positive file listed) ps w) ∙
          lowest-nowhere (over t) start (last t - start) (nowhere (lowest_from (over t) start (last t - start)) (sym (next-is file listed start) ∙ e)) (number_of ps) h
          (omega (arith, (number-of-list (block_count t) (positive file listed) ps w.0).0))),
      λ none.
          next-is file listed start ∙
          ap (found_at (entry t)) (nowhere-lowest (over t) start (last t - start) (λ m h k. all-over (over t m) m refl h k none)),
    )
  where
    nowhere : (x : Option ℕ) → found_at (entry (task_of file)) x ≡ None → x ≡ None
    nowhere None e = refl
    nowhere (Some m) e = let z : ◌≡◌ {A = ℕ} 0 1 = cc in absurd (omega arith)

    all-over : (x : Bool) (m : ℕ) → over (task_of file) m ≡ x → start ≤ m → m < start + (last (task_of file) - start)
        → ((ps : List ℕ) → FitsWell (task_of file) ps → start ≤ number_of ps → ⊥) → over (task_of file) m ≡ true
    all-over true m p h k none = p
    all-over false m p h k none =
        let below : m < last (task_of file) = omega arith in
        let is = (list-of-number (block_count (task_of file)) (positive file listed) m below).1 in
        absurd (none (list_of (block_count (task_of file)) m) (number_fits (task_of file) (positive file listed) m p) (rw is h))
