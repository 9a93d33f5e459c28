use Rattle.std.proofs.Common.{◌∙◌, arith}
use Rattle.report.proofs.Pages.{filled}
use Rattle.report.proofs.written.Goals as goal

pub returns : goal.returns
returns c =
    let made = c.in_ok-page.ensures.len in
    let e = made ∙ c.requires in
    let k = c.write.auto.out in
    let l = c.deref_mut.ensures.len in
    filled _ c.deref_mut.result.now c.write.new.out _ c.write.result c.in_ok-page.page.len e (omega arith)
    (omega arith) c.write.ensures
