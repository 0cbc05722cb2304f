use Rattle.std.proofs.Common.{◌-◌, length}
use Rattle.text.proofs.LexIgnored.{CommentSofar}
use Rattle.text.proofs.graphql.comment.Given as goal

abbrev pub invariant-loop-byte : goal.invariant-loop-byte
invariant-loop-byte l = CommentSofar l.text l.at l.next

abbrev pub decreases-loop-byte : goal.decreases-loop-byte
decreases-loop-byte l = length l.text - l.next
