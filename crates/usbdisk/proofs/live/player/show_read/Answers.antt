use Rattle.std.proofs.Common.{◌≡◌, ◌*◌, ◌/◌, ◌∙◌, ℕ, inl, inr, refl, length, arith}
use Rattle.usbdisk.proofs.live.player.show_read.Goals as goal

-- the bytes of count sectors are count whole ones
counted : (size count : ℕ) → size ≡ 512 * count → size / 512 ≡ count
counted size count is = omega (arith, is)

pub returns-in-Ok : goal.returns-in-Ok
returns-in-Ok g c = inl (record {
  bytes = c.read_file.new.to;
  whole = c.read_file.auto.to ∙ c.requires;
  read = rw c.medium.ensures.is at c.in-Ok.ensures.read;
  taken = c.show.result;
  shown = c.show.ensures.shown;
  others = c.show.ensures.others;
  fits = c.show.ensures.fits;
})

pub returns-in-Err : goal.returns-in-Err
returns-in-Err g c = inr (
  rw (c.medium.ensures.is, counted (length c.read_file.new.to) c.args.count (c.read_file.auto.to ∙ c.requires))
      at c.in-Err.ensures.unread,
  refl,
)
