-- What the geometry of a cache holds of a task. Assumes nothing.
use Rattle.std.specs.Prelude.{ℕ, ◌+◌, ◌*◌, ◌/◌, ◌%◌, ◌^◌, ◌≤◌, ◌<◌, ◌≡◌, not, ◌&&◌, eqb, None, Option, Some}
use Rattle.std.specs.Int.Bits.{bit_and}
use Rattle.model.specs.Task.{Task, line_count}
use Rattle.model.specs.Lines.{bypasses, on_line}
use Rattle.cacheline.specs.declared.Divider.{Divider}
use Rattle.cacheline.specs.declared.Geometry.{Geometry}
use Rattle.cacheline.specs.declared.Power.{Power}
use Rattle.cacheline.specs.declared.Slot.{Slot}

-- a divider by s: right for every 32-bit number, and what it computes has at most 64 bits
pub record Divides (s : ℕ) (d : Divider) : Type 0 where
  pub exact : (m : ℕ) → m < 2 ^ 32 → (m * d.factor + d.addend) / 2 ^ d.shift ≡ m / s
  pub fits : (m : ℕ) → m < 2 ^ 32 → m * d.factor + d.addend < 2 ^ 64
  pub narrow : d.shift < 64

-- a mask for s, if it is not 0: it leaves the remainder by s
abbrev pub Masks : ℕ → ℕ → Type 0
Masks s mask = (mask ≡ 0 → ⊥) → (m : ℕ) → bit_and m mask ≡ m % s

-- the greatest power of two that is at most 2 ^ 32 times s
pub record PowerFor (s : ℕ) (p : Power) : Type 0 where
  pub value : p.value ≡ 2 ^ p.shift
  pub most : p.value ≤ s * 2 ^ 32
  pub greatest : s * 2 ^ 32 < p.value * 2
  pub wide : 32 ≤ p.shift
  pub narrow : p.shift < 64

-- from 1 to 512 lines, and a divider by their number, and a mask
pub record Sound (c : Geometry) : Type 0 where
  pub some : 1 ≤ c.line_count
  pub most : c.line_count ≤ 512
  pub divides : Divides c.line_count c.divider
  pub masks : Masks c.line_count c.mask

-- the geometry of a task's cache; the scratch range ends at 2 ^ 32 or before
pub record GeometryOf (t : Task) (c : Geometry) : Type 0 where
  pub sound : Sound c
  pub count : c.line_count ≡ line_count t
  pub first : c.first ≡ t.header.scratch.first
  pub bypassing : c.bypassing ≡ t.header.scratch.count
  pub ends : c.first + c.bypassing ≤ 2 ^ 32

-- a line, if there is one, is below 512
abbrev pub WithinCache : Option ℕ → Type 0
WithinCache None = Unit
WithinCache (Some c) = c < 512

-- memory block m is cached unless it bypasses the cache, and then lies on the slot's line alone
pub record SlotOf (t : Task) (m : ℕ) (s : Slot) : Type 0 where
  pub is-cached : s.cached ≡ not (bypasses t m)
  pub lies : (d : ℕ) → on_line t d m ≡ (eqb d s.line && s.cached)
