use Rattle.std.proofs.Common.{rules, ◌≡◌, Option, Some, ap, subst, sym, ◌∙◌}
use Rattle.counter_http.specs.{declared.routes.Route.Route, declared.routes.Route.TheVariants.Account, Next.asked}
use Rattle.counter_http.specs.declared.routes.Route.TheVariants.{Health, Log, Metrics, Plan, Teller}
use Rattle.counter_http.specs.{believed.Paths.route_of, Tasks.IsTaskOn}
use Rattle.counter_http.proofs.tasks.task_of.Goals as goal

-- a path leads to the route that was found
at_route : (P : Option Route → Type 0) (route r : Route) (found leads : Option Route) → r ≡ route → found ≡ Some r
    → found ≡ leads → P (Some route) → P leads
at_route P route r found leads same is to holds = subst P (sym (is ∙ ap (λ (r : Route). Some r) same) ∙ to) holds

-- the path is that of an account
pub returns-in-Some-Account : goal.returns-in-Some-Account
returns-in-Some-Account c =
    let account : c.in-Some-Account.field-0 ≡ Account = search rules in
    at_route (λ o. IsTaskOn o (asked c.args.message.now) c.account_task.result) Account _ _ _ account c.in-Some-Account.is
    (c.find.ensures ∙ ap route_of c.path_of-path.ensures) c.account_task.ensures

-- the path is that of a teller
pub returns-in-Some-Teller : goal.returns-in-Some-Teller
returns-in-Some-Teller c =
    let teller : c.in-Some-Teller.field-0 ≡ Teller = search rules in
    at_route (λ o. IsTaskOn o (asked c.args.message.now) c.teller_task.result) Teller _ _ _ teller c.in-Some-Teller.is
    (c.find.ensures ∙ ap route_of c.path_of-path.ensures) c.teller_task.ensures

-- the path is that of the counter's health
pub returns-in-Some-Health : goal.returns-in-Some-Health
returns-in-Some-Health c =
    let health : c.in-Some-Health.field-0 ≡ Health = search rules in
    at_route (λ o. IsTaskOn o (asked c.args.message.now) c.health_task.result) Health _ _ _ health c.in-Some-Health.is
    (c.find.ensures ∙ ap route_of c.path_of-path.ensures) c.health_task.ensures

-- the path is that of the log
pub returns-in-Some-Log : goal.returns-in-Some-Log
returns-in-Some-Log c =
    let log : c.in-Some-Log.field-0 ≡ Log = search rules in
    at_route (λ o. IsTaskOn o (asked c.args.message.now) c.log_task.result) Log _ _ _ log c.in-Some-Log.is
    (c.find.ensures ∙ ap route_of c.path_of-path.ensures) c.log_task.ensures

-- the path is that of the plan
pub returns-in-Some-Plan : goal.returns-in-Some-Plan
returns-in-Some-Plan c =
    let plan : c.in-Some-Plan.field-0 ≡ Plan = search rules in
    at_route (λ o. IsTaskOn o (asked c.args.message.now) c.plan_task.result) Plan _ _ _ plan c.in-Some-Plan.is
    (c.find.ensures ∙ ap route_of c.path_of-path.ensures) c.plan_task.ensures

-- the path is that of the figures
pub returns-in-Some-Metrics : goal.returns-in-Some-Metrics
returns-in-Some-Metrics c =
    let metrics : c.in-Some-Metrics.field-0 ≡ Metrics = search rules in
    at_route (λ o. IsTaskOn o (asked c.args.message.now) c.metrics_task.result) Metrics _ _ _ metrics c.in-Some-Metrics.is
    (c.find.ensures ∙ ap route_of c.path_of-path.ensures) c.metrics_task.ensures
