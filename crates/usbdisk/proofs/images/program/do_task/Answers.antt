use Rattle.usbdisk.proofs.images.program.do_task.Goals as goal

pub returns-in-Ok-clause-done : goal.returns-in-Ok-clause-done
returns-in-Ok-clause-done g c = rw (c.new.ensures, c.in-Image.is) c.in-Ok.ensures.done

pub returns-in-Err-clause-refused : goal.returns-in-Err-clause-refused
returns-in-Err-clause-refused g c = rw (c.with.ensures, c.new-in-Err.ensures, c.in-Image.is) c.in-Err.ensures.refused

pub returns-in-Import-clause-done : goal.returns-in-Import-clause-done
returns-in-Import-clause-done g c = rw c.in-Import.is c.import.ensures.done

pub returns-in-Import-clause-refused : goal.returns-in-Import-clause-refused
returns-in-Import-clause-refused g c = rw c.in-Import.is c.import.ensures.refused

pub returns-in-Export-clause-done : goal.returns-in-Export-clause-done
returns-in-Export-clause-done g c = rw c.in-Export.is c.export.ensures.done

pub returns-in-Export-clause-refused : goal.returns-in-Export-clause-refused
returns-in-Export-clause-refused g c = rw c.in-Export.is c.export.ensures.refused
