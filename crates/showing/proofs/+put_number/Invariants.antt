-- The measure is the number: the digits of a tenth of it come first, and then its last.
use Rattle.showing.proofs.+put_number.Given as goal

abbrev pub decreases-put_number : goal.decreases-put_number
decreases-put_number l = l.n
