-- What is made once for all connections of a service.
use Rattle.path_lookup.specs.declared.hash.HashNames.{HashNames}
use Rattle.http_api.specs.declared.site.Site.{Site}

-- what the paths of a site's cluster are hashed between
abbrev pub site_names : Site → HashNames
site_names site = site.names
