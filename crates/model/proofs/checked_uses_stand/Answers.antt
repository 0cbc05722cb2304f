use Rattle.std.proofs.Common.{refl}
use Rattle.model.proofs.checked_uses_stand.Goals as goal

pub returns : goal.returns
returns c = ((refl, (refl, (refl, (refl, (refl, (refl, (refl, (refl, (refl, (refl, (refl, (refl, (refl, (refl, (refl, (refl, (refl, (refl, tt)))))))))))))))))), refl, refl, refl, refl)
