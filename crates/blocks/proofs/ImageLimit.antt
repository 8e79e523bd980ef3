-- The limit that the image of a medium tells: it has one, and a start and a store leave it.
use Rattle.std.proofs.Common.{arith, ◌≡◌, ℕ, true, refl, sym, ◌∙◌, ap}
use Rattle.medium.{specs.{Medium.{State, Image}, Moments.{EachCut, LeavesOnly}}, proofs.Moments.weaker}
use Rattle.logical_blocks.specs.Book.{Book}
use Rattle.journal.{specs.Standing.Stands, proofs.StandingLaws.StandsFor-one}
use Rattle.redo_log.proofs.StoreFacts.{may_leave_ours}
use Rattle.recovery.specs.Recovered.{IsOursForSome, StandsForOneOf}
use Rattle.blocks.specs.{Started.StartLeaves, Limit.{Shape, limit_of, HasLimit}, StoreValue.{Cached, transfer_limit, FitsBook}}

pub some_limit : (size : ℕ) (image : Image) → Stands size image → (limit : ℕ) × HasLimit size limit image
some_limit size image there =
    (limit_of there.0.format, record { shape = there.0; array = there.1; next = there.2; stands = there.3; limit_is = refl })

pub one_limit : (size limit other : ℕ) (image : Image) → HasLimit size limit image → HasLimit size other image → limit ≡ other
one_limit size limit other image has is =
    has.limit_is ∙ ap (λ (s : Shape). limit_of s.format) (StandsFor-one _ _ _ _ _ _ _ _ _ has.stands is.stands).0 ∙ sym is.limit_is

-- a start, good or refused, leaves images of the limit that they had: each stands for what one before it stood for
pub start_keeps_limit : (before after : State) (limit : ℕ) → StartLeaves before after → EachCut (IsOursForSome before.size) before
    → EachCut (HasLimit before.size limit) before → LeavesOnly (HasLimit before.size limit) before after
start_keeps_limit before after limit leaves ours has =
    weaker (StandsForOneOf before) (HasLimit before.size limit) before after (λ image is.
    let was = has is.before is.allowed in
    let one = StandsFor-one _ _ _ _ _ _ _ _ _ was.stands is.was.stands in grind (arith, is, was.limit_is, one)) (leaves.cuts ours)

-- between two calls a cut leaves what has the limit of the store
pub cut_keeps_limit : (m : State) (cached : Cached) (book : Book) → FitsBook m cached book
    → book.ours ≡ true → EachCut (HasLimit m.size (transfer_limit cached)) m
cut_keeps_limit m cached book fits ours image cut =
    grind (arith, may_leave_ours m.size cached.log fits.view image (fits.holds.leaves (fits.ours ∙ ours) image cut))
