-- The measure of the walk is the row's number: a link goes to a smaller one.
use Rattle.snowball.proofs.among.+walk.Given as goal

abbrev pub decreases-walk : goal.decreases-walk
decreases-walk g l = l.row
