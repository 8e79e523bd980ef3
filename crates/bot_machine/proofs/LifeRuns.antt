-- Lives go on: one run of actions after another, and whole lives from the first.
use Rattle.std.proofs.Common.{◌≡◌, ℕ, ◌+◌, ◌≤◌, Bool, List, [], ◌∷◌, ◌++◌, length-append, refl, sym, subst, ◌∙◌, ap, arith, append_assoc}
use Rattle.std.proofs.Common.{◌<◌, suc, None, length, take, drop, get_or, drop-cons}
use Rattle.std.proofs.{lemmas.List.{append-nil, take_more, take-append-drop}, lemmas.List.Sums.{sum_by-append, sum_by-take-le}}
use Rattle.bot_machine.specs.{Device.{presented, Device}, Answers.Room, declared.lives.disk_state.DiskState.TheVariants.Stopped}
use Rattle.bot_machine.specs.{Moving.MovesBy, Lifetimes.{StandsFirst, AppendsFor, actions_of, actions_of_all, armed_by, events_in}}
use Rattle.bot_machine.specs.{Lifetimes.{AreLived, AreLivedUpTo, KeepsPromiseUpTo, IsRefusedFor}, LivesValue.{LivesValue, medium_in}}
use Rattle.bot_machine.specs.LivesValue.{state_in, FitsLives, LivesGoTo, LivesGoOn, MayRefuse, LivesStopAt, LivesStop, IsAtRest, OpensOn}
use Rattle.bot_machine.specs.{LivesValue.{HasLimit, RestsAlone}, declared.lives.life.Life.Life, Opening.IsNotOpened}
use Rattle.scsi_unit.specs.{StartFaults.StartFault, Books.StandsAs, Starting.StandsForSome}
use Rattle.logical_blocks.specs.Book.{Book}
use Rattle.spec.specs.{declared.event.Answer.Answer, Conversation.refused_events, Lives.{Action, starts, Standing, LivesRun}}
use Rattle.spec.specs.{Disks.prompt_disk, Promise.{first_standing, AreKept, AreKeptUpTo}}
use Rattle.bot_machine.proofs.{Runs.{refused_events-append, counted}, Moved.{MovesBy-append, caused_through, few_causes}}
use Rattle.bot_machine.proofs.LifeStarts.{first_found, first_limited}
use Rattle.std.specs.Prelude.{Option, Some, MatchOption}
use Rattle.medium.specs.{Medium.{State, Image, CutLeaves}, Sim.{Sim, state_of, IsFused}}

-- one run after another
pub LivesRun-append : (device : Device) (xs ys : List Action) (told more : List Answer)
    (refusals others : List Bool) (a b c : Standing prompt_disk) → LivesRun (presented device) a xs told refusals b
    → LivesRun (presented device) b ys more others c → LivesRun (presented device) a (xs ++ ys) (told ++ more) (refusals ++ others) c
LivesRun-append device [] ys told more [] others a b c r s = rw (r.0, ← r.1) s
LivesRun-append device (x ∷ xs) ys told more (refused ∷ refusals) others a b c r s = (
  r.0,
  r.1,
  r.2 ++ more,
  ap (λ (l : List Answer). l ++ more) r.3 ∙ append_assoc r.1 r.2 more,
  r.4,
  LivesRun-append device xs ys r.2 more refusals others r.0 b c r.5 s,
)
LivesRun-append device xs ys told more refusals others a b c r s = absurd r

-- where a start may be refused with fewer refusals counted
pub more_refused : (book : Book) (fault : StartFault) (counted less failures : ℕ) → counted ≤ less → MayRefuse book less failures fault
    → MayRefuse book counted failures fault
more_refused book fault counted less failures few h = grind arith

-- nothing is done
pub rests : (lives : LivesValue) → LivesGoOn lives [] [] lives
rests lives = record {
  refusals = [];
  moves = (refl, refl);
  refused = omega arith;
  caused = omega arith;
  goes = λ here fits. record { there = here; run = (refl, refl); fits = fits; ours = refl; limit_stays = λ ours. refl };
  size_stays = refl;
  device_stays = refl;
}

module _ (a b c : LivesValue) (xs ys : List Action) (told more : List Answer) (first : LivesGoOn a xs told b) where
  -- lives go on, and go on
  pub lives_go_on : LivesGoOn b ys more c → LivesGoOn a (xs ++ ys) (told ++ more) c
  lives_go_on next = record {
    refusals = first.refusals ++ next.refusals;
    moves = MovesBy-append a.device xs ys told more first.refusals next.refusals a.state b.state c.state first.moves
        (rw first.device_stays at next.moves);
    refused = counted first.refusals next.refusals (state_in a.state).failures (state_in b.state).failures (state_in c.state).failures
        first.refused next.refused;
    caused = caused_through (medium_in a.state) (medium_in b.state) (medium_in c.state) xs ys first.refusals next.refusals first.caused
        next.caused;
    goes = goes;
    size_stays = next.size_stays ∙ first.size_stays;
    device_stays = next.device_stays ∙ first.device_stays;
  }
    where
      goes : (here : Standing prompt_disk) → FitsLives a here → LivesGoTo c here (xs ++ ys) (told ++ more) (first.refusals ++ next.refusals)
      goes here fits =
          let mid = first.goes here fits in
          let last = next.goes mid.there mid.fits in
          record {
            there = last.there;
            run = LivesRun-append c.device xs ys told more first.refusals next.refusals here mid.there last.there
                (rw (← next.device_stays) at (first.goes here fits).run) last.run;
            fits = last.fits;
            ours = last.ours ∙ mid.ours;
            limit_stays = λ ours. last.limit_stays (mid.ours ∙ ours) ∙ mid.limit_stays ours;
          }

  -- lives go on, and a start is refused
  abbrev pub lives_stop : (fault : StartFault) (answers : List Answer) → told ++ more ≡ answers → LivesStop b ys more fault c
      → LivesStop a (xs ++ ys) answers fault c
  lives_stop fault answers all next = record {
    refusals = first.refusals ++ next.refusals;
    at = next.at;
    moves = rw (← all) (MovesBy-append a.device xs ys told more first.refusals next.refusals a.state b.state (Stopped next.at) first.moves
        (rw first.device_stays at next.moves));
    start = next.start;
    in_start = next.in_start;
    counted = next.counted;
    refused = rw joined (counted first.refusals (next.refusals ++ next.in_start ∷ []) (state_in a.state).failures
        (state_in b.state).failures (state_in c.state).failures first.refused next.refused);
    caused = rw joined (caused_through (medium_in a.state) (medium_in b.state) (medium_in c.state) xs ys first.refusals
        (next.refusals ++ next.in_start ∷ []) first.caused next.caused);
    goes = goes;
    rests = next.rests;
    on = next.on;
    size_stays = next.size_stays ∙ first.size_stays;
    device_stays = next.device_stays ∙ first.device_stays;
  }
    where
      joined : (first.refusals ++ next.refusals) ++ next.in_start ∷ [] ≡ first.refusals ++ (next.refusals ++ next.in_start ∷ [])
      joined = append_assoc first.refusals next.refusals (next.in_start ∷ [])

      less : refused_events (first.refusals ++ next.refusals) + (state_in a.state).failures
          ≤ refused_events next.refusals + (state_in b.state).failures
      less = let h = first.refused in omega (arith, refused_events-append first.refusals next.refusals, h)

      goes : (here : Standing prompt_disk) → FitsLives a here → LivesStopAt c here (xs ++ ys) answers (first.refusals ++ next.refusals)
          (refused_events (first.refusals ++ next.refusals) + (state_in a.state).failures) fault
      goes here fits =
          let mid = first.goes here fits in
          let last = next.goes mid.there mid.fits in
          record {
            there = last.there;
            run = rw (← all) (LivesRun-append c.device xs ys told more first.refusals next.refusals here mid.there last.there
                (rw (← next.device_stays) at (first.goes here fits).run) last.run);
            book = last.book;
            opens = last.opens;
            ours = last.ours ∙ mid.ours;
            cause = λ ours. more_refused last.book fault _ _ (state_in c.state).failures less (last.cause ours);
            limited = λ ours. rw (mid.limit_stays (sym (last.ours ∙ mid.ours) ∙ ours)) at (last.limited ours);
            found = last.found;
          }

-- appending, and then more, is appending all
pub appended : (first mid last : Room) (told more : List Answer) → mid ≡ record first { list = first.list ++ told }
    → last ≡ record mid { list = mid.list ++ more } → last ≡ record first { list = first.list ++ (told ++ more) }
appended first mid last told more e f = rw (f, e, append_assoc) refl

-- one more part of lives, and its answers
pub appends_on : (a b c : LivesValue) (first mid last : Room) (xs ys : List Action) (m n : ℕ)
    → AppendsFor a b first mid xs m → AppendsFor b c mid last ys n → AppendsFor a c first last (xs ++ ys) (m + n)
appends_on a b c first mid last xs ys m n h k = record {
  told = h.told ++ k.told;
  appends = appended first mid last h.told k.told h.appends k.appends;
  one_each = let e = h.one_each in let f = k.one_each in omega (arith, length-append h.told k.told, e, f);
  goes_on = lives_go_on a b c xs ys h.told k.told h.goes_on k.goes_on;
}

-- a fuse or none, a start, events with their answers, and a cut
pub whole_life : (a b c d e : LivesValue) (first last : Room) (armed events : List Action) (n : ℕ) (cut : Action)
    → LivesGoOn a armed [] b → LivesGoOn b (starts ∷ []) [] c → AppendsFor c d first last events n → LivesGoOn d (cut ∷ []) [] e
    → AppendsFor a e first last (armed ++ starts ∷ events ++ cut ∷ []) n
whole_life a b c d e first last armed events n cut h_arm h_start h_events h_cut = record {
  told = h_events.told;
  appends = h_events.appends;
  one_each = h_events.one_each;
  goes_on = rw (append-nil h_events.told) at
      (lives_go_on a d e (armed ++ starts ∷ events) (cut ∷ []) h_events.told []
      (lives_go_on a b d armed (starts ∷ events) [] h_events.told h_arm
      (lives_go_on b c d (starts ∷ []) events [] h_events.told h_start h_events.goes_on)) h_cut);
}

-- a fuse or none, and a start that is refused
pub no_life : (a b c : LivesValue) (armed : List Action) (fault : StartFault) → LivesGoOn a armed [] b → LivesStop b [] [] fault c
    → LivesStop a armed [] fault c
no_life a b c armed fault h_arm h_stop = rw (append-nil armed) at (lives_stop a b c armed [] [] [] h_arm fault [] refl h_stop)

-- no life yet
pub none_yet : (lives : LivesValue) (answers : Room) → AppendsFor lives lives answers answers [] 0
none_yet lives answers = record {
  told = [];
  appends = ap (λ (l : List Answer). record answers { list = l }) (sym (append-nil answers.list));
  one_each = refl;
  goes_on = rests lives;
}

-- what is done in some lives and then in others
actions_of_all-append : (some more : List Life) → actions_of_all (some ++ more) ≡ actions_of_all some ++ actions_of_all more
actions_of_all-append [] more = refl
actions_of_all-append (life ∷ some) more =
    ap (λ (l : List Action). actions_of life ++ l) (actions_of_all-append some more)
    ∙ sym (append_assoc (actions_of life) (actions_of_all some) (actions_of_all more))

module _ (lives : List Life) (i : ℕ) (life : Life) (below : i < length lives) (is : life ≡ get_or lives i life) where
  one_more : take (i + 1) lives ≡ take i lives ++ life ∷ []
  one_more = take_more lives i life below ∙ ap (λ (x : Life). take i lives ++ x ∷ []) (sym is)

  -- one life more
  pub actions_more : actions_of_all (take (i + 1) lives) ≡ actions_of_all (take i lives) ++ actions_of life
  actions_more = ap actions_of_all one_more ∙ actions_of_all-append (take i lives) (life ∷ [])
      ∙ ap (λ (l : List Action). actions_of_all (take i lives) ++ l) (append-nil (actions_of life))

  pub events_more : events_in (take (i + 1) lives) ≡ events_in (take i lives) + length life.events.items
  events_more =
      let joined = ap events_in one_more ∙ sum_by-append (λ (l : Life). length l.events.items) (take i lives) (life ∷ []) in
      omega (arith, joined)

  -- there is room for its answers
  pub room_left : events_in (take i lives) + length life.events.items ≤ events_in lives
  room_left = omega (arith, events_more, sum_by-take-le (λ (l : Life). length l.events.items) lives (i + 1))

  -- the lives before it, and those behind
  pub apart : lives ≡ take i lives ++ life ∷ drop (suc i) lives
  apart = sym (take-append-drop i lives)
      ∙ ap (λ (l : List Life). take i lives ++ l) (drop-cons lives i life below ∙ ap (λ (x : Life). x ∷ drop (suc i) lives) (sym is))

-- a start is refused for another reason than a fuse that was armed before it
pub not_for_a_fuse : (fuse : Option ℕ) (old armed : LivesValue) (after : State) (fault : StartFault)
    → MatchOption fuse (armed ≡ old) (λ writes. IsFused writes (medium_in old.state) (medium_in armed.state))
    → IsNotOpened (state_in armed.state) after fault → IsNotOpened (state_in old.state) after fault
not_for_a_fuse None old armed after fault same h = rw same at h
not_for_a_fuse (Some writes) old armed after fault fused h = rw fused at h

-- the first lives, over a medium that opens with a book
pub first_fits : (m : Sim) (device : Device) → StandsFirst m (record { device = device; state = Stopped m })
first_fits m device limit book rest unfused opens has = record {
  is_at = (rest, opens);
  limit_at = has;
  limited = λ ours. first_limited m limit rest.flushed has;
  found = first_found m book rest.flushed opens;
  unfused = λ unarmed. unfused;
}

module _ (m : Sim) (device : Device) (rest : IsAtRest m) (unfused : m.power.fuse ≡ None) (after : LivesValue) (told : List Answer) where
  abbrev first : LivesValue
  first = record { device = device; state = Stopped m }

  abbrev pub all_lived : (lives : List Life) → LivesGoOn first (actions_of_all lives) told after → length told ≡ events_in lives
      → RestsAlone after → AreLived m device lives told (medium_in after.state)
  all_lived lives on one_each ended = record {
    one_each = one_each;
    kept = record {
      refusals = on.refusals;
      few = on.refused;
      caused = few_causes m (medium_in after.state) (actions_of_all lives) on.refusals on.caused;
      lives = kept;
    };
    moves = rw ended.alone at on.moves;
    rests = ended.rests;
    unfused = ended.unfused;
    size_stays = on.size_stays;
  }
    where
      size : ℕ
      size = (state_of m).size

      Leaves : Image → Type 0
      Leaves = CutLeaves (state_of (medium_in after.state)).may_leave

      kept : (limit : ℕ) (book : Book) → OpensOn (state_of m) book → HasLimit size limit (state_of m).content
          → AreKept prompt_disk (StandsForSome size) (StandsAs size) (HasLimit size) (presented device) limit book (actions_of_all lives)
          told on.refusals Leaves
      kept limit book opens has =
          let here : Standing prompt_disk = first_standing limit book in
          let g = on.goes here (first_fits m device limit book rest unfused opens has) in
          record {
            last = g.there;
            run = rw on.device_stays at g.run;
            limited = λ ours image cut. rw (g.limit_stays ours, on.size_stays) at (g.fits.limited (g.ours ∙ ours) image cut);
            found = λ ours image cut. rw on.size_stays at (g.fits.found (g.ours ∙ ours) image cut);
          }

module _ (m : Sim) (device : Device) (rest : IsAtRest m) (unfused : m.power.fuse ≡ None) (mid after : LivesValue) (told : List Answer)
    (lives lived others : List Life) (life : Life) (fault : StartFault) (lives_are : lives ≡ lived ++ life ∷ others)
    (on : LivesGoOn (record { device = device; state = Stopped m }) (actions_of_all lived) told mid)
    (one_each : length told ≡ events_in lived) (ended : RestsAlone mid)
    (cause : IsNotOpened (state_in mid.state) (state_in after.state) fault) (last : LivesStop mid (armed_by life.fuse) [] fault after) where
  abbrev begun : LivesValue
  begun = record { device = device; state = Stopped m }

  abbrev were_lived : AreLived m device lived told (medium_in mid.state)
  were_lived = all_lived m device rest unfused mid told lived on one_each ended

  abbrev stop : LivesStop begun (actions_of_all lived ++ armed_by life.fuse) told fault after
  stop = lives_stop begun mid after (actions_of_all lived) (armed_by life.fuse) told [] on fault told (append-nil told) last

  arms : MovesBy device (Stopped (medium_in mid.state)) (armed_by life.fuse) [] last.refusals (Stopped last.at)
  arms = rw on.device_stays at (rw ended.alone at last.moves)

  abbrev actions : List Action
  actions = actions_of_all lived ++ armed_by life.fuse

  at_stop : (limit : ℕ) (book : Book) → OpensOn (state_of m) book → HasLimit (state_of m).size limit (state_of m).content
      → LivesStopAt after (first_standing limit book) actions told stop.refusals
      (refused_events stop.refusals + (state_of m).failures) fault
  at_stop limit book opens has = stop.goes (first_standing limit book) (first_fits m device limit book rest unfused opens has)

  kept_up_to : (limit : ℕ) (book : Book) → OpensOn (state_of m) book → HasLimit (state_of m).size limit (state_of m).content
      → AreKeptUpTo prompt_disk (StandsForSome (state_of m).size) (StandsAs (state_of m).size) (HasLimit (state_of m).size)
      (presented device) limit book actions told stop.refusals (CutLeaves (state_of (medium_in after.state)).may_leave)
  kept_up_to limit book opens has =
      let g = at_stop limit book opens has in
      record {
        last = g.there;
        run = subst (λ (x : Device). LivesRun (presented x) (first_standing limit book) actions told stop.refusals g.there)
            stop.device_stays g.run;
        next = g.book;
        opens = g.opens;
        limited = λ ours image cut. rw stop.size_stays at (g.limited (g.ours ∙ ours) image cut);
        found = λ ours image cut. rw stop.size_stays at (g.found (g.ours ∙ ours) image cut);
      }

  abbrev keeps : KeepsPromiseUpTo m device actions told (medium_in after.state)
  keeps = record {
    refusals = stop.refusals;
    in_start = stop.in_start;
    few = stop.refused;
    caused = few_causes m (medium_in after.state) actions (stop.refusals ++ stop.in_start ∷ []) stop.caused;
    lives = kept_up_to;
  }

  refused_for : IsRefusedFor m device actions told fault (medium_in after.state) keeps
  unfolding kept_up_to
  refused_for limit book opens has ours = let g = at_stop limit book opens has in g.cause (g.ours ∙ ours)

  pub lived_up_to : AreLivedUpTo m device lives told fault (medium_in after.state)
  lived_up_to = record {
    up_to = record { lived = lived; life = life; rest = others; lives_are = lives_are; kept = keeps };
    at = medium_in mid.state;
    were_lived = were_lived;
    cause = cause;
    armed = last.at;
    arming = last.refusals;
    arms = arms;
    start = last.start;
    in_start_is = stop.counted;
    refusals_are = refl;
    refused = refused_for;
    on = stop.on;
    size_stays = stop.size_stays;
  }
