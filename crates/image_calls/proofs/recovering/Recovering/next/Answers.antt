use Rattle.image_calls.proofs.recovering.Recovering.next.Goals as goal

pub returns-clause-goes_on : goal.returns-clause-goes_on
returns-clause-goes_on c m n is =
    let came = c.next.ensures.hands is.first is.began m n is.running in (
      came.0,
      record { first = is.first; began = is.began; running = came.1; held = is.held },
      came.2,
    )
