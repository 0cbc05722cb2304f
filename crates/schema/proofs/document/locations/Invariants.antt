use Rattle.std.proofs.Common.{◌-◌, List, length}
use Rattle.model.specs.Values.{Location}
use Rattle.schema.specs.Holds.{LocationsHeld}
use Rattle.schema.specs.Reading.{Onward}
use Rattle.schema.specs.Told.{sights}
use Rattle.schema.proofs.Eating.{LocationsSofar}
use Rattle.schema.proofs.document.locations.Given as goal

abbrev pub invariant-loop-name : goal.invariant-loop-name
invariant-loop-name l =
    (ls : List Location)
    × LocationsSofar (sights l.fn.tokens) l.fn.tokens.at l.tokens.at ls
    × LocationsHeld l.locations ls
    × Onward 0 l.fn.tokens l.tokens

abbrev pub decreases-loop-name : goal.decreases-loop-name
decreases-loop-name l = length l.tokens.text.now - l.tokens.at
