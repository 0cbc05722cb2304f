use Rattle.lookup.proofs.Names.{first_at, only_first}
use Rattle.lookup.proofs.TableLookup.find.Goals as goal

pub returns-clause-first : goal.returns-clause-first
returns-clause-first g c = first_at g.R.Named.called c.args.name.now c.args.self.now.records.now c.first.result c.first.ensures

pub returns-clause-only : goal.returns-clause-only
returns-clause-only g c once = only_first _ _ _ (first_at g.R.Named.called c.args.name.now c.args.self.now.records.now c.first.result c.first.ensures) once
