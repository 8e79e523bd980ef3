use Rattle.image_calls.proofs.recovering.Recovering.done.Goals as goal

pub returns-in-Ok-clause-goes_on : goal.returns-in-Ok-clause-goes_on
returns-in-Ok-clause-goes_on c m n honest is =
    let came = c.in-Ok.ensures.goes_on is.first is.began m n honest is.running in (
      came.0,
      record { first = is.first; began = is.began; running = came.1; held = is.held },
      came.2,
    )

pub returns-in-Err-clause-goes_on : goal.returns-in-Err-clause-goes_on
returns-in-Err-clause-goes_on c m n honest is =
    let came = c.in-Err.ensures.goes_on is.first is.began m n honest is.running in (
      came.0,
      record { first = is.first; began = is.began; running = came.1; held = is.held },
      came.2,
    )
