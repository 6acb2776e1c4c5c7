-- What falls is the count of certificates that may follow. Assumes nothing.
use Rattle.chain.proofs.walking.+walk_on.Given as goal

abbrev pub decreases-walk_on : goal.decreases-walk_on
decreases-walk_on l = l.left
