-- Facts on options and results.
use Rattle.std.{proofs.Common.{refl, Option, Some, None, Result, Ok, Err}, specs.Prelude.{IfNone, IsSome, IfOk, IfErr, MatchResult}}

-- what follows where there is no value
pub none_weaker : {T P Q : Type 0} (r : Option T) → (P → Q) → IfNone r P → IfNone r Q
none_weaker None weaker holds = weaker holds
none_weaker (Some x) weaker holds = tt

-- what holds anyway
pub none_so : {T Q : Type 0} (r : Option T) → Q → IfNone r Q
none_so None holds = holds
none_so (Some x) holds = tt

-- what follows for each value, and for each error
pub if_ok : {T E : Type 0} {P Q : T → Type 0} (r : Result T E) → ((x : T) → P x → Q x) → IfOk r P → IfOk r Q
if_ok (Ok x) follows holds = follows x holds
if_ok (Err e) follows holds = tt

pub if_err : {T E : Type 0} {P Q : E → Type 0} (r : Result T E) → ((e : E) → P e → Q e) → IfErr r P → IfErr r Q
if_err (Ok x) follows holds = tt
if_err (Err e) follows holds = follows e holds

-- where there must be a value, there is one
pub is_some_where : {T : Type 0} {P : Type 0} (r : Option T) → IfNone r P → (P → ⊥) → IsSome r
is_some_where None holds never = absurd (never holds)
is_some_where (Some x) holds never = refl

-- what follows for a value, and from what an error is
pub match_result : {T E : Type 0} {P : E → Type 0} {Q : T → Type 0} {R : E → Type 0} (r : Result T E) → ((x : T) → Q x)
    → ((e : E) → P e → R e) → IfErr r P → MatchResult r Q R
match_result (Ok x) good bad holds = good x
match_result (Err e) good bad holds = bad e holds

-- what holds of a result either way
pub both : {A E : Type 0} (r : Result A E) (P : A → Type 0) (Q : E → Type 0) → IfOk r P → IfErr r Q → MatchResult r P Q
both (Ok a) P Q ok err = ok
both (Err e) P Q ok err = err
