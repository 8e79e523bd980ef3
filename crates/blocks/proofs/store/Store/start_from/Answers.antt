use Rattle.std.proofs.Common.{◌≡◌, ◌&&◌, ◌∙◌, ap, arith, refl, Bool, true, ℕ}
use Rattle.theorems.{specs.Ahead.may_go_by, proofs.{Headroom.empty_has_room, Steady.{empty_fills, empty_reaches}}}
use Rattle.blocks.specs.{StoreValue.{Cached, StoreValue}, Started.{ring_by, cached_from, HasStartedLog}, declared.start.Keeping.Keeping}
use Rattle.recovery.specs.{Recovered.FitsRecovered, declared.recovered.Recovered.Recovered}
use Rattle.blocks.proofs.KnownImages.{starts}
use Rattle.blocks.proofs.store.Store.start_from.Goals as goal

-- what is known of its log, by whose ring it goes ahead
has_log : {M : Type 0} (keeping : Keeping) (ahead told : Bool) (size : ℕ) (found : Recovered) (store : StoreValue M)
    → FitsRecovered size found → store.cached ≡ cached_from keeping found → store.goes_ahead ≡ told
    → told ≡ (ahead && may_go_by found.sizes.format (ring_by keeping found.sizes.slots))
    → HasStartedLog keeping ahead store
has_log keeping ahead told size found store fits cached goes is =
    let log = ap (λ (s : Cached). s.log) cached in
    let policy : store.goes_ahead ≡ (ahead && may_go_by store.cached.log.shape.format store.cached.log.ring) = rw cached (goes ∙ is) in
    let may : store.goes_ahead ≡ true → may_go_by store.cached.log.shape.format store.cached.log.ring ≡ true =
    λ on. grind (arith, policy, on) in
    record {
      keeps = rw cached refl;
      ring = rw cached refl;
      policy = policy;
      filling = λ on. empty_fills _ _ _ _ _ log (may on) (omega (arith, fits.least));
      reaches = λ on. empty_reaches _ _ _ _ _ log (may on) (omega (arith, fits.least));
      headroom = λ on. empty_has_room _ _ _ _ _ log (may on);
    }

pub returns-in-Ok : goal.returns-in-Ok
returns-in-Ok g c =
    let made = c.in-Ok.ensures.ok in
    record {
      medium_stays = refl;
      cached_is = made.1;
      has_log = has_log _ _ _ _ _ _ c.args.on.fits made.1 refl (rw made.0 at c.goes_ahead_by-goes_ahead.ensures);
      started = λ before after left. rw made.1 (starts _ _ _ _ _ left);
    }
