-- What is shown of the C calls beside the contracts (document 02, item 1: every host makes the same plan). Assumes nothing.
use Rattle.std.specs.Prelude.{ℕ, ◌≡◌, List}
use Rattle.firmware.specs.Calls.{PlanCall}

-- for a file and a block there is one number at most that planning may return, and one content of the block that it may leave
abbrev pub OneCall : Type 0
OneCall = (file block : List ℕ) (r s : ℕ) (left right : List ℕ) → PlanCall file block r left → PlanCall file block s right → (r ≡ s) × (left ≡ right)

-- and where it returns 0, what the block held before makes no difference
abbrev pub OneBlock : Type 0
OneBlock = (file block other left right : List ℕ) → PlanCall file block 0 left → PlanCall file other 0 right → left ≡ right
