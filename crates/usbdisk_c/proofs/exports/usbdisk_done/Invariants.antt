use Rattle.usbdisk_c.proofs.exports.usbdisk_done.Given as goal

abbrev pub ghost-tell_done : goal.ghost-tell_done
ghost-tell_done g a = g.content
