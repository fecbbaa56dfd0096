-- The task of the other file is that of the first with other preempters, so the calls see the same of both.
-- Assumes nothing.
use Prim.Native.Nat.{ℕ, zero, suc, ◌+◌, ◌<◌, ◌≤◌}
use mathlib.Core.Path.{◌≡◌, refl, sym, ap, ap₂, ◌∙◌}
use mathlib.Core.List.{List, ◌∷◌}
use native.Mathlib.Omega.{arith}
use Rattle.model.specs.Task.{with_preempters}
use Rattle.model.proofs.Seen.{SeenAlike, seen_alike}
use Rattle.taskfile.specs.File.{block_in, counts, basic_of, collect, header_of, task_of}
use Rattle.taskfile.proofs.Accepted.{counts-in, header-in}
use Rattle.samelines.specs.Files.{SameLines}

collect-same : {A : Type 0} (f g : ℕ → A) (a n : ℕ) → ((i : ℕ) → a ≤ i → i < a + n → f i ≡ g i) → collect f a n ≡ collect g a n
unfolding collect
collect-same f g a zero h = refl
collect-same f g a (suc n) h = ap₂ ◌∷◌ (h a (omega arith) (omega arith)) (collect-same f g (suc a) n (λ i l u. h i (omega arith) (omega arith)))

-- N and M stand in block 0
pub counts-agree : (file other : List ℕ) → block_in file 0 ≡ block_in other 0 → counts file ≡ counts other
counts-agree file other e = counts-in file ∙ ap counts e ∙ sym (counts-in other)

module _ (file other : List ℕ) (s : SameLines file other) where
  counts_same : counts file ≡ counts other
  counts_same = counts-agree file other (s.blocks 0 (omega arith))

  header-same : header_of file ≡ header_of other
  header-same = header-in file ∙ ap header_of (s.blocks 0 (omega arith)) ∙ sym (header-in other)

  basic : collect (λ k. basic_of (block_in file k)) 1 (counts file).blocks ≡ collect (λ k. basic_of (block_in other k)) 1 (counts file).blocks
  basic = collect-same _ _ 1 (counts file).blocks (λ k l u. ap basic_of (s.blocks k (omega arith)))

  same-but : task_of other ≡ with_preempters (task_of file) (task_of other).preempters
  unfolding task_of
  same-but = rw (basic, counts_same, header-same)

  pub tasks-alike : SeenAlike (task_of file) (task_of other)
  tasks-alike = seen_alike (task_of file) (task_of other) same-but s.touched
