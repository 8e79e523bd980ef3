use Rattle.std.proofs.Common.{◌≡◌, ◌*◌, ℕ, List, ◌∷◌, ◌++◌, [], inr, refl, ap, ◌∙◌, arith}
use Rattle.medium.specs.FileStory.{Told}
use Rattle.medium.specs.declared.file_call.Access.{Access}
use Rattle.medium.specs.declared.file_call.FileCall.{FileCall}
use Rattle.medium.specs.declared.file_call.FileCall.TheVariants.{Open, Lock, Resize}
use Rattle.device_file.specs.Asked.{begun}
use Rattle.device_file.specs.FileValue.{made_for}
use Rattle.device_file.proofs.system.create.Goals as goal
use Rattle.device_file.proofs.system.create.Given as given
use Rattle.device_file.proofs.system.create.Goals.{In_ok-resize-2}

-- it was opened, locked, emptied, and given its length
calls : (g : given.Over) (c : In_ok-resize-2 g)
    → c.resize-2.new.file.asked ≡ Open c.access_for-access.result ∷ Lock ∷ Resize 0 ∷ Resize c.in-Some.length ∷ []
calls g c = c.in_ok-resize-2.ensures.ok.asks.asked ∙ ap (λ (l : List FileCall). l ++ Resize c.in-Some.length ∷ [])
    (c.in_ok-resize.ensures.ok.asks.asked ∙ ap (λ (l : List FileCall). l ++ Resize 0 ∷ [])
    (ap (λ (t : Told). t.asked) c.in_ok-lock.ensures.ok
    ∙ ap (λ (l : List FileCall). l ++ Lock ∷ []) c.in_ok-file.ensures.asked))

pub over-requires : goal.over-requires
over-requires g c = inr (c.in-Some.length, calls g c)

pub returns : goal.returns
returns g c =
    let length_is : c.in-Some.length ≡ 512 * c.args.sectors = omega (arith, c.in-Some.ensures) in
    let emptied = c.in_ok-resize.ensures.ok.resized in
    let given = c.in_ok-resize-2.ensures.ok.resized in
    rw c.over.ensures (record {
      told_is = ap (λ (a : Access). begun c.args.path.now a) c.access_for-access.ensures;
      path_is = c.in_ok-resize-2.ensures.ok.asks.path_stays ∙ c.in_ok-resize.ensures.ok.asks.path_stays
          ∙ ap (λ (t : Told). t.path) c.in_ok-lock.ensures.ok ∙ c.in_ok-file.ensures.path_is;
      asked = calls g (goal.at.returns g c).In_ok-resize-2
          ∙ ap (λ (a : Access). Open a ∷ Lock ∷ Resize 0 ∷ Resize c.in-Some.length ∷ []) c.access_for-access.ensures
          ∙ ap (λ (n : ℕ). Open (made_for c.args.existing) ∷ Lock ∷ Resize 0 ∷ Resize n ∷ []) length_is;
      sectors_are = refl;
      size_is = given.size_is ∙ length_is;
      zeros = λ p below. given.grown p (omega (arith, emptied.size_is)) (omega (arith, length_is));
    })
