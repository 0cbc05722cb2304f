use Rattle.validation.proofs.Rows.{none_declared, row_declared}
use Rattle.validation.proofs.variables.Variables.find.Goals as goal

pub returns-in_err-index : goal.returns-in_err-index
returns-in_err-index g c vs h = rw (c.from_residual.ensures, none_declared _ c.args.self.now.rows.now vs c.args.name.now h.held (rw h.named at c.in_err-index.ensures.first)) tt

pub returns : goal.returns
returns g c vs h =
    let f = rw h.named at c.in_ok-index.ensures.first in
    let l = c.get.ensures.lookup in
    row_declared _ c.args.self.now.rows.now vs c.args.name.now c.in_ok-index.index h.held f.0 f.1 f.2 c.get.result (record { some = l.2; is = l.1 })
