-- What an event stands for (SPEC 8.2): a value, a glide, a gate, which is a value for the parameter `gate`, or a free.
use Rattle.std.specs.Prelude.{[], ◌∷◌}
use Rattle.node.specs.Name.{name_of}
use Rattle.node.specs.declared.name.Name.{Name}
use Rattle.node.specs.declared.order.EventAction.{EventAction}
use Rattle.node.specs.declared.order.EventAction.TheVariants as action
use Rattle.node.specs.declared.order.LastOrder.{LastOrder}
use Rattle.node.specs.declared.order.LastOrder.TheVariants as order
use Rattle.scheduler.specs.declared.event.Event.{Event}
use Rattle.scheduler.specs.declared.event.ParamOrder.{ParamOrder}

-- the bytes of `gate`
abbrev pub gate_name : Name
gate_name = name_of (103 ∷ 97 ∷ 116 ∷ 101 ∷ [])

-- the order that an action becomes at its node: a gate is a value; a free is no order
abbrev pub order_of : EventAction → LastOrder
order_of (action.Value x) = order.Value x
order_of (action.Glide g) = order.Glide g
order_of (action.Gate x) = order.Value x
order_of action.Free = order.Nothing

-- the parameter that an action is for: a gate's is `gate`, whatever name stands beside it
abbrev pub param_of : EventAction → Name → Name
param_of (action.Value x) name = name
param_of (action.Glide g) name = name
param_of (action.Gate x) name = gate_name
param_of action.Free name = name

abbrev pub param_order : Event → ParamOrder
param_order e = record { name = param_of e.action e.name; order = order_of e.action }
