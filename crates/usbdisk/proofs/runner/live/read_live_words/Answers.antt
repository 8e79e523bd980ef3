use Rattle.std.proofs.{Common.{◌≡◌, ◌≤◌, ◌-◌, ◌∙◌, ℕ, List, ◌∷◌, ap, sym, subst, map, take, drop, length, arith}, lemmas.List.take_all}
use Rattle.std.specs.Borrow.{Bor}
use Rattle.usbdisk.specs.runner.Task.{IsPacketEnding}
use Rattle.usbdisk.proofs.runner.live.read_live_words.Goals as goal

abbrev texts : List (Bor (List ℕ)) → List (List ℕ)
texts = map (λ word. word.now)

-- the words behind the first one
behind_one : (words : List (Bor (List ℕ))) (first : List ℕ) (rest : List (List ℕ)) → 1 ≤ length words → texts words ≡ first ∷ rest
    → texts (take (length words - 1) (drop 1 words)) ≡ rest
behind_one (a ∷ tail) first rest some is =
    let all : take (length (a ∷ tail) - 1) tail ≡ tail = take_all _ tail (omega arith) in
    ap texts all ∙ ap (drop 1) is
behind_one _ first rest some is = absurd (omega (arith, some))

pub returns-in_err-read_packet_ending-clause-none : goal.returns-in_err-read_packet_ending-clause-none
returns-in_err-read_packet_ending-clause-none c =
    rw c.from_residual.ensures
    (λ line. c.in_err-read_packet_ending.ensures.none line.1 (subst (λ words. IsPacketEnding words line.1)
    (sym (behind_one c.args.words.now line.0 line.2.ending c.in-len1-up.len_at_least line.2.words_are)) line.2.size_is))
