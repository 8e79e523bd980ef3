-- The bit that was read from the list is that of its page.
use Rattle.std.proofs.Common.{refl, sym}
use Rattle.scsi_commands.proofs.ModeLists.{bit_of_page}
use Rattle.scsi_commands.proofs.caching.mode_select.Goals as goal

pub returns-clause-page : goal.returns-clause-page
returns-clause-page c = λ device enabled is.
    let bit = bit_of_page c.args.list.now device enabled c.in_ok-bit.bit (sym c.in_ok-bit.ensures) is in
    rw (c.unwrap_or.ensures, bit) refl
