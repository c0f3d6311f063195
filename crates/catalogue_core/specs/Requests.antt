-- Changing requests as the library is asked them.
use Rattle.kept_replies.specs.Tokens.{text_of}
use Rattle.library_model.specs.Asked.{Asked, change, command}
use Rattle.catalogue_core.specs.declared.requests.Request.{Request}

-- what a request asks
abbrev pub asked_by : Request → Asked
asked_by request = change (text_of request.token) request.mark (command request.command)
