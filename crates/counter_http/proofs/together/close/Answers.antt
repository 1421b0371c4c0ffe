use Rattle.counter_http.proofs.together.close.Goals as goal

pub returns : goal.returns
returns g c =
    let parts = c.part-reader.result in
    record {
      left = (parts.0, parts.1);
      parting = parts.2;
      is = record { reader = c.part-reader.ensures.reader; writer = c.part-reader.ensures.writer; why = c.part-reader.ensures.why };
      made = rw (c.number-number.ensures) at c.close.ensures;
    }
