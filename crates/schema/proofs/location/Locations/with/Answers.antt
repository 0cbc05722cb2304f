use Rattle.std.proofs.Common.{arith}
use Rattle.schema.specs.LocationTold.{location_of}
use Rattle.schema.proofs.Placing.{with_one, number_small}
use Rattle.schema.proofs.location.Locations.with.Goals as goal

pub returns : goal.returns
returns c ls h = with_one c.args.self (location_of c.args.location) c.number.result ls c.number.ensures (let w = number_small c.args.location in omega (arith, c.number.ensures, c.well_formed)) h
