-- The task that a seed draws (document 02, item 6). Assumes nothing.
use Rattle.std.specs.Prelude.{ℕ, zero, suc, ◌+◌, ◌*◌, ◌/◌, ◌%◌, ◌^◌, false, List, [], ◌∷◌}
use Rattle.model.specs.Task.{Block, Preempter, Task}
use Rattle.model.specs.declared.Header.{Header}

-- the state after a draw (the document's s)
unfoldable pub next : ℕ → ℕ
next s = (s * 1664525 + 1013904223) % 2 ^ 32

-- what a draw from state s gives: it is taken from the new state
unfoldable pub draw : ℕ → ℕ
draw s = next s / 65536

-- the state after n things, where f is the state after one
unfoldable pub after : (ℕ → ℕ) → ℕ → ℕ → ℕ
after f zero s = s
after f (suc n) s = after f n (f s)

-- n things, where g makes one of its index, from i on, and the state before it
unfoldable pub drawn_list : {A : Type 0} → (ℕ → ℕ → A) → (ℕ → ℕ) → ℕ → ℕ → ℕ → List A
drawn_list g f i zero s = []
drawn_list g f i (suc n) s = g i s ∷ drawn_list g f (suc i) n (f s)

-- a memory block number
unfoldable pub drawn_number : ℕ → ℕ → ℕ
drawn_number i s = draw s % 4096

-- what a block reads: r is drawn, then r numbers
unfoldable pub drawn_reads : ℕ → List ℕ
drawn_reads s = drawn_list drawn_number next 0 (draw s % 125) (next s)

unfoldable pub after_reads : ℕ → ℕ
after_reads s = after next (draw s % 125) (next s)

-- a basic block: its time is drawn before its reads, and the sampler is not armed in it (document 02, item 9)
unfoldable pub drawn_block : ℕ → ℕ → Block
drawn_block i s = record { time = 1 + draw s % 1000; armed = false; reads = drawn_reads (next s) }

unfoldable pub after_block : ℕ → ℕ
after_block s = after_reads (next s)

-- a preempter (the document's interrupter): its id is its index, and only its reads are drawn
unfoldable pub drawn_preempter : ℕ → ℕ → Preempter
drawn_preempter i s = record { id = i; reads = drawn_reads s }

-- the header of a seed, S, Q and R: the id is the seed, the scratch range is empty, and Q2 and G are 0 (header bytes 20 to 35 are zero)
abbrev pub drawn_header : ℕ → ℕ → ℕ → ℕ → Header
drawn_header seed s q r =
    record { line_count = s; limit = q; reload = r; id = seed; scratch = record { first = 0; count = 0 }; second_limit = 0; switch = 0 }

-- the task of a seed, N, M, S, Q and R: the preempters go on with the state that the basic blocks left
unfoldable pub drawn_task : ℕ → ℕ → ℕ → ℕ → ℕ → ℕ → Task
drawn_task seed n m s q r =
    record {
      header = drawn_header seed s q r;
      blocks = drawn_list drawn_block after_block 0 n seed;
      preempters = drawn_list drawn_preempter after_reads 0 m (after after_block n seed);
    }
