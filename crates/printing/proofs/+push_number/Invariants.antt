-- The measure of `push_number` is the number.
use Rattle.printing.proofs.+push_number.Given as goal

abbrev pub decreases-push_number : goal.decreases-push_number
decreases-push_number l = l.n
