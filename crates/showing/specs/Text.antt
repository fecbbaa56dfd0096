-- The text of a task: a line for each of the header's numbers, and then one for each basic block and each preempter. Assumes nothing.
use Rattle.std.specs.Prelude.{ℕ, cond, List, [], ◌∷◌, ◌++◌}
use Rattle.model.specs.Task.{Block, Preempter, Task}
use Rattle.model.specs.declared.Header.{Header}
use Rattle.decimals.specs.Decimals.{spelled}

-- what ends a line, and what stands between two words
abbrev pub line_feed : ℕ
line_feed = 10

abbrev pub space : ℕ
space = 32

-- the words: task, lines, limit, sampler, reload, switch, scratch, and block, armed, preempter
abbrev pub task_word : List ℕ
task_word = 116 ∷ 97 ∷ 115 ∷ 107 ∷ []

abbrev pub lines_word : List ℕ
lines_word = 108 ∷ 105 ∷ 110 ∷ 101 ∷ 115 ∷ []

abbrev pub limit_word : List ℕ
limit_word = 108 ∷ 105 ∷ 109 ∷ 105 ∷ 116 ∷ []

abbrev pub sampler_word : List ℕ
sampler_word = 115 ∷ 97 ∷ 109 ∷ 112 ∷ 108 ∷ 101 ∷ 114 ∷ []

abbrev pub reload_word : List ℕ
reload_word = 114 ∷ 101 ∷ 108 ∷ 111 ∷ 97 ∷ 100 ∷ []

abbrev pub switch_word : List ℕ
switch_word = 115 ∷ 119 ∷ 105 ∷ 116 ∷ 99 ∷ 104 ∷ []

abbrev pub scratch_word : List ℕ
scratch_word = 115 ∷ 99 ∷ 114 ∷ 97 ∷ 116 ∷ 99 ∷ 104 ∷ []

abbrev pub block_word : List ℕ
block_word = 98 ∷ 108 ∷ 111 ∷ 99 ∷ 107 ∷ []

abbrev pub armed_word : List ℕ
armed_word = 97 ∷ 114 ∷ 109 ∷ 101 ∷ 100 ∷ []

abbrev pub preempter_word : List ℕ
preempter_word = 112 ∷ 114 ∷ 101 ∷ 101 ∷ 109 ∷ 112 ∷ 116 ∷ 101 ∷ 114 ∷ []

-- numbers, each behind a space
unfoldable pub spaced : List ℕ → List ℕ
spaced [] = []
spaced (n ∷ ns) = space ∷ (spelled n ++ spaced ns)

-- a line: a word and its numbers
unfoldable pub line_text : List ℕ → List ℕ → List ℕ
line_text word ns = word ++ (spaced ns ++ (line_feed ∷ []))

-- the seven lines of a header
unfoldable pub header_text : Header → List ℕ
header_text h =
    line_text task_word (h.id ∷ []) ++
    (line_text lines_word (h.line_count ∷ []) ++
    (line_text limit_word (h.limit ∷ []) ++
    (line_text sampler_word (h.second_limit ∷ []) ++
    (line_text reload_word (h.reload ∷ []) ++
    (line_text switch_word (h.switch ∷ []) ++
    line_text scratch_word (h.scratch.first ∷ h.scratch.count ∷ []))))))

-- a basic block: its time and what it reads, after a word that says whether the sampler is armed in it
unfoldable pub block_text : Block → List ℕ
block_text b = line_text (cond b.armed armed_word block_word) (b.time ∷ b.reads)

unfoldable pub blocks_text : List Block → List ℕ
blocks_text [] = []
blocks_text (b ∷ bs) = block_text b ++ blocks_text bs

-- a preempter: its id and what it reads
unfoldable pub preempter_text : Preempter → List ℕ
preempter_text p = line_text preempter_word (p.id ∷ p.reads)

unfoldable pub preempters_text : List Preempter → List ℕ
preempters_text [] = []
preempters_text (p ∷ ps) = preempter_text p ++ preempters_text ps

-- the text of a task
unfoldable pub text_of : Task → List ℕ
text_of t = header_text t.header ++ (blocks_text t.blocks ++ preempters_text t.preempters)
