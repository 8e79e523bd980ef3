use Rattle.std.proofs.Common.{◌≡◌, ◌&&◌, ◌∙◌, Bool, refl, ap, ℕ}
use Rattle.std.proofs.lemmas.Result.{MatchResult-weaker}
use Rattle.medium.specs.Medium.{State}
use Rattle.theorems.specs.Ahead.{may_go_by}
use Rattle.blocks.specs.{Started.{StartFromPost, Recovered, ring_by}, StoreValue.{StoreValue, layout_of, slots_of}}
use Rattle.scsi_unit.specs.{Starting.StoreFromPost, Retiring.{keeping_of, goes_ahead_by}, declared.retiring.Retiring.Retiring}
use Rattle.scsi_unit.proofs.start.store_from.Goals as goal

-- a store that goes ahead as its unit asks
store_from : {M : Type 0} (retiring : Retiring) (ahead : Bool) (state : M → State) (found : Recovered) (medium : M) (store : StoreValue M)
    → ((ahead && may_go_by (layout_of store.cached).format (ring_by (keeping_of retiring) (slots_of store.cached)))
    ≡ goes_ahead_by retiring (layout_of store.cached))
    → StartFromPost (keeping_of retiring) ahead state found medium store → StoreFromPost retiring state found medium store
store_from retiring ahead state found medium store is post = record {
  medium_stays = post.medium_stays;
  cached_is = post.cached_is;
  policy = post.policy ∙ ap (λ (ring : ℕ). ahead && may_go_by (layout_of store.cached).format ring) post.ring ∙ is;
  headroom = post.headroom;
  started = post.started;
}

pub returns-in-Late : goal.returns-in-Late
returns-in-Late g c = rw c.in-Late.is (MatchResult-weaker c.start_from.result c.start_from.ensures
    (λ store post. store_from _ _ _ _ _ _ refl post) (λ error is. is))

pub returns-in-Ahead : goal.returns-in-Ahead
returns-in-Ahead g c = rw c.in-Ahead.is (MatchResult-weaker c.start_from-in-Ahead.result c.start_from-in-Ahead.ensures
    (λ store post. store_from _ _ _ _ _ _ refl post) (λ error is. is))

pub returns-in-Kept : goal.returns-in-Kept
returns-in-Kept g c = rw c.in-Kept.is (MatchResult-weaker c.start_from-in-Kept.result c.start_from-in-Kept.ensures
    (λ store post. store_from _ _ _ _ _ _ refl post) (λ error is. is))
