use Rattle.std.proofs.Common.{◌≡◌, ℕ, suc, ◌+◌, List, [], ◌∷◌, ◌++◌, take, drop, sym, ap, ◌∙◌, append_assoc, ◌≤◌, ◌-◌, length, append-nil}
use Rattle.std.proofs.Common.{subst, refl, arith, length-drop}
use Rattle.std.proofs.lemmas.List.{take-append-drop, take_more, take_rest}
use Rattle.std.proofs.Math.Seq.{split_at, take-add}
use Rattle.usbdisk.specs.runner.Served.{IsLineEnd, IsUnended}
use Rattle.std.proofs.lemmas.Result.{err_from_is_err_and, on_ok_weaker}
use Rattle.spec.specs.Packets.{bytes_of}
use Rattle.spec.specs.declared.packet_size.PacketSize.{PacketSize}
use Rattle.spec.specs.declared.packet_size.PacketSize.TheVariants.{Full64, High512}
use Rattle.usbdisk.proofs.Options.{if_err}
use Rattle.usbdisk.proofs.ServedLines.{served-packets, served-part, served-line, stops-ended, stops-long}
use Rattle.usbdisk.proofs.runner.serve.serve_bytes.Goals as goal

regroup : (read a p r more : List ℕ) → (read ++ (a ++ (p ++ 10 ∷ r))) ++ more ≡ ((read ++ a) ++ p) ++ 10 ∷ (r ++ more)
regroup read a p r more = simp append_assoc

-- these bytes, with a first part served, up to a line feed and behind it
cut_at : (read bytes more : List ℕ) (at end : ℕ) → IsLineEnd (drop at bytes) end
    → read ++ bytes ++ more ≡ ((read ++ take at bytes) ++ take end (drop at bytes)) ++ 10 ∷ (drop (suc end) (drop at bytes) ++ more)
cut_at read bytes more at end is =
    let ds = drop at bytes in
    let line = take end ds in
    let behind = drop (suc end) ds in
    let here : ds ≡ line ++ 10 ∷ behind = split_at ds end 0 is.within ∙ ap (λ (b : ℕ). line ++ b ∷ behind) is.here in
    ap (λ (l : List ℕ). (read ++ l) ++ more) (sym (take-append-drop at bytes) ∙ ap (λ (l : List ℕ). take at bytes ++ l) here)
    ∙ regroup read (take at bytes) line behind more

-- up to that line feed
grown_to : (read bytes : List ℕ) (at end : ℕ) → IsLineEnd (drop at bytes) end
    → read ++ take (at + (end + 1)) bytes ≡ ((read ++ take at bytes) ++ take end (drop at bytes)) ++ 10 ∷ []
grown_to read bytes at end is =
    let ds = drop at bytes in
    let line = take end ds in
    ap (λ (l : List ℕ). read ++ l) (take-add at (end + 1) bytes
    ∙ ap (λ (l : List ℕ). take at bytes ++ l) (take_more ds end 0 is.within ∙ ap (λ (b : ℕ). line ++ b ∷ []) is.here))
    ∙ (let all : read ++ (take at bytes ++ (line ++ 10 ∷ [])) ≡ ((read ++ take at bytes) ++ line) ++ 10 ∷ [] = simp append_assoc in all)

-- with no line feed behind that part
last_part : (read bytes : List ℕ) (at : ℕ) → read ++ bytes ≡ (read ++ take at bytes) ++ drop at bytes
last_part read bytes at =
    ap (λ (l : List ℕ). read ++ l) (sym (take-append-drop at bytes)) ∙ sym (append_assoc read (take at bytes) (drop at bytes))

small : {most : ℕ} (size : PacketSize) → bytes_of size ≡ most → most ≤ 512
small Full64 is = omega arith
small High512 is = omega arith

-- the bytes of the line that ends
part_is : (bytes : List ℕ) (at end : ℕ) → take (at + end - at) (drop at bytes) ≡ take end (drop at bytes)
part_is bytes at end = ap (λ (n : ℕ). take n (drop at bytes)) (let e : at + end - at ≡ end = omega arith in e)

end_in : (bytes : List ℕ) (at end : ℕ) → IsLineEnd (take (length bytes - at) (drop at bytes)) end → IsLineEnd (drop at bytes) end
end_in bytes at end is = rw (take_rest bytes at) at is

pub lines-init : goal.lines-init
lines-init g c = record {
  within = omega arith;
  goes_on = λ was first read so. rw (append-nil read) so;
}

pub returns-in_err-hold-clause-stops : goal.returns-in_err-hold-clause-stops
returns-in_err-hold-clause-stops g c =
    let bytes = c.args.bytes.now in
    let at = c.lines.at in
    let end = c.in-Some.end in
    let ends = end_in bytes at end c.in-Some.ensures in
    let long = rw (part_is bytes at end) at c.in_err-hold.ensures.too_long in
    let p = err_from_is_err_and c.from_residual.result c.from_residual.ensures.1 in
    rw (p.1, p.2, long.0) (λ was first read more so. rw (cut_at read bytes more at end ends)
    (stops-long g.met.P.Player.laws (c.lines.invariant.goes_on was first read so) (take end (drop at bytes))
    (10 ∷ (drop (suc end) (drop at bytes) ++ more))
    (small c.longest_packet-size.result (c.longest_packet-size.ensures ∙ served-packets g.met.P.Player.laws so)) ends.before long.1))

pub returns-in_err-answer_line-clause-stops : goal.returns-in_err-answer_line-clause-stops
returns-in_err-answer_line-clause-stops g c =
    let laws = g.met.P.Player.laws in
    let bytes = c.args.bytes.now in
    let at = c.lines.at in
    let end = c.in-Some.end in
    let ends = end_in bytes at end c.in-Some.ensures in
    let stands = rw (part_is bytes at end) at c.in_ok-hold.ensures.held in
    let p = err_from_is_err_and c.from_residual-in_err-answer_line.result c.from_residual-in_err-answer_line.ensures.1 in
    rw (p.1, p.2) (λ was first read more so. rw (cut_at read bytes more at end ends)
    (stops-ended laws
    (served-part laws (c.lines.invariant.goes_on was first read so) c.hold.new.self.bytes.items (take end (drop at bytes)) ends.before
    stands c.in_ok-hold.ensures.number refl)
    (g.W.Write.contents c.answer_line.new.out) c.answer_line.new.player (drop (suc end) (drop at bytes) ++ more)
    c.in_err-answer_line.field-0.0 c.in_err-answer_line.ensures.stopped))

pub lines-preserved : goal.lines-preserved
lines-preserved g c =
    let laws = g.met.P.Player.laws in
    let bytes = c.args.bytes.now in
    let at = c.lines.at in
    let end = c.in-Some.end in
    let ends = end_in bytes at end c.in-Some.ensures in
    let stands = rw (part_is bytes at end) at c.in_ok-hold.ensures.held in
    let answered = c.in_ok-answer_line.ensures.answered in
    record {
      within = omega (arith, ends.within, length-drop at bytes, c.lines.invariant.within);
      goes_on = λ was first read so. served-line laws
          (served-part laws (c.lines.invariant.goes_on was first read so) c.hold.new.self.bytes.items (take end (drop at bytes))
          ends.before stands c.in_ok-hold.ensures.number refl)
          answered c.begin_next.ensures.bytes c.begin_next.ensures.number (grown_to read bytes at end ends);
    }

pub returns : goal.returns
returns g c =
    let laws = g.met.P.Player.laws in
    let bytes = c.args.bytes.now in
    let at = c.lines.at in
    let unended = subst IsUnended (take_rest bytes at) c.in_default.ensures in
    record {
      goes_on = on_ok_weaker c.hold-2.result (λ stands was first read so.
          served-part laws (c.lines.invariant.goes_on was first read so) c.hold-2.new.self.bytes.items (drop at bytes) unended
          (rw (take_rest bytes at) at stands) c.hold-2.ensures.number (last_part read bytes at)) c.hold-2.ensures.held;
      stops = if_err c.hold-2.result (λ fault too_long was first read more so.
          let long = rw (take_rest bytes at) at too_long in
          rw (long.0, ap (λ (l : List ℕ). l ++ more) (last_part read bytes at))
          (stops-long laws (c.lines.invariant.goes_on was first read so) (drop at bytes) more
          (small c.longest_packet-size.result (c.longest_packet-size.ensures ∙ served-packets laws so)) unended long.1))
          c.hold-2.ensures.too_long;
    }
