use Rattle.std.proofs.Common.{sym, subst, Ok, Err}
use Rattle.fx_gateway.specs.declared.connections.GateError.{GateError}
use Rattle.fx_pool.proofs.WiresLemmas.{all_tell}
use Rattle.fx_serve.specs.Steps.{IsNoted}
use Rattle.fx_serve.proofs.StepLemmas.{cut_noted, replied_noted, unread_noted}
use Rattle.fx_serve.proofs.serving.serve_conn.Goals as goal

pub returns-in-Ok : goal.returns-in-Ok
returns-in-Ok g c =
    let laws = g.met.W.Wire g.world.𝓛 g.world.𝓜 g.world.𝓡 ((λ s x. x), (λ x. x), (λ x. x), λ x. x) in
    record {
      served = (
        Ok c.in-Ok.gated,
        record {
          alike = all_tell g.W.Wire.seen g.W.Wire.tells_log laws.told c.serve_connection.new.wires;
          connected = c.in-Ok.ensures.connected;
          within = c.in-Ok.ensures.within;
          reads = c.in-Ok.ensures.faultless_reads;
          writes = c.in-Ok.ensures.faultless_writes;
        },
        replied_noted c.args.service.endpoints.now c.args.service.members.now c.in-Ok.gated c.noted.result c.requires.named c.noted.ensures.memory c.noted.ensures.noted,
      );
    }

pub returns-in-Err-WriteFault : goal.returns-in-Err-WriteFault
returns-in-Err-WriteFault g c =
    let laws = g.met.W.Wire g.world.𝓛 g.world.𝓜 g.world.𝓡 ((λ s x. x), (λ x. x), (λ x. x), λ x. x) in
    record {
      served = (
        Err c.in-Err-WriteFault.field-0,
        record {
          alike = all_tell g.W.Wire.seen g.W.Wire.tells_log laws.told c.serve_connection.new.wires;
          connected = c.in-Err-WriteFault.ensures.connected;
          within = c.in-Err-WriteFault.ensures.within;
          reads = c.in-Err-WriteFault.ensures.faultless_reads;
          writes = c.in-Err-WriteFault.ensures.faultless_writes;
        },
        subst (λ (e : GateError). IsNoted c.args.service.members.now (Err e) c.noted-in-Err-WriteFault.result) (sym c.in-Err-WriteFault.field-0-is) (cut_noted c.args.service.endpoints.now c.args.service.members.now c.in-Err-WriteFault.gated c.noted-in-Err-WriteFault.result c.requires.named c.noted-in-Err-WriteFault.ensures.memory c.noted-in-Err-WriteFault.ensures.noted),
      );
    }

pub returns-in-Err-ReadFault : goal.returns-in-Err-ReadFault
returns-in-Err-ReadFault g c =
    let laws = g.met.W.Wire g.world.𝓛 g.world.𝓜 g.world.𝓡 ((λ s x. x), (λ x. x), (λ x. x), λ x. x) in
    record {
      served = (
        Err c.in-Err-ReadFault.field-0,
        record {
          alike = all_tell g.W.Wire.seen g.W.Wire.tells_log laws.told c.serve_connection.new.wires;
          connected = c.in-Err-ReadFault.ensures.connected;
          within = c.in-Err-ReadFault.ensures.within;
          reads = c.in-Err-ReadFault.ensures.faultless_reads;
          writes = c.in-Err-ReadFault.ensures.faultless_writes;
        },
        subst (λ (e : GateError). IsNoted c.args.service.members.now (Err e) (Ok c.unread.result)) (sym c.in-Err-ReadFault.field-0-is) (unread_noted c.args.service.members.now c.unread.result c.unread.ensures.ending c.unread.ensures.lines),
      );
    }

pub returns-in-Err-Memory : goal.returns-in-Err-Memory
returns-in-Err-Memory g c =
    let laws = g.met.W.Wire g.world.𝓛 g.world.𝓜 g.world.𝓡 ((λ s x. x), (λ x. x), (λ x. x), λ x. x) in
    record {
      served = (
        Err c.in-Err-Memory.field-0,
        record {
          alike = all_tell g.W.Wire.seen g.W.Wire.tells_log laws.told c.serve_connection.new.wires;
          connected = c.in-Err-Memory.ensures.connected;
          within = c.in-Err-Memory.ensures.within;
          reads = c.in-Err-Memory.ensures.faultless_reads;
          writes = c.in-Err-Memory.ensures.faultless_writes;
        },
        tt,
      );
    }
