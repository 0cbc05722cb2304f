-- Faults that are handed on.
use Rattle.text.specs.declared.fault.Fault.{Fault}
use Rattle.text.specs.declared.fault.Fault.TheVariants.{NoMemory}
use Rattle.reader.specs.Told.{Blames}

pub blames_map : (P Q : Fault → Type 0) → ((g : Fault) → P g → Q g) → (f : Fault) → Blames f P → Blames f Q
blames_map P Q h NoMemory p = tt
blames_map P Q h _ p = h _ p

pub blames_all : (P : Fault → Type 0) (f : Fault) → P f → Blames f P
blames_all P NoMemory p = tt
blames_all P _ p = p
