use Rattle.std.proofs.Common.{refl, Ok, Err}
use Rattle.calls.proofs.held.Held.hear.Goals as goal

pub returns-in-Ok : goal.returns-in-Ok
returns-in-Ok g c =
    let same = c.deref_mut.ensures.value in
    let hears = rw same at c.in-Ok.ensures.hears in
    let goes_on = rw same at c.in-Ok.ensures.goes_on in
    rw c.in-Recovering.is
    (Ok c.in-Ok.field-0, c.done.new.self, hears, goes_on, (refl, c.recover_on.ensures))

pub returns-in-Err : goal.returns-in-Err
returns-in-Err g c =
    let same = c.deref_mut.ensures.value in
    let hears = rw same at c.in-Err.ensures.hears in
    let goes_on = rw same at c.in-Err.ensures.goes_on in
    rw c.in-Recovering.is
    (Err c.in-Err.fault, c.done.new.self, hears, goes_on, (c.code_of.ensures, (refl, refl, refl)))
